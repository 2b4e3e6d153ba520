-- `nodes::filter_nulls` meets its contract: no bitmap, or padding, the packed marks and the count of those that are null. Assumes nothing.
use Prim.Native.Nat.{◌+◌, ◌*◌, ◌≤◌}
use mathlib.Core.Path.{◌≡◌, refl, sym, ◌∙◌}
use mathlib.Core.Bool.{true}
use mathlib.Core.List.{map}
use native.Mathlib.Omega.{arith}
use lib.ListN.{length}
use Rattle.format.specs.Bytes.{packed}
use Rattle.format.specs.Node.{places}
use Rattle.format.proofs.NullLaws.{no-nulls}
use Rattle.format.proofs.Put.{same_size}
use Rattle.format.specs.Write.{holds, any_null, bitmap}
use Rattle.bitmaps.specs.Push.{bit_from}
use Rattle.buffers.proofs.PutLaws.{puts_none, puts-bytes, pad-room, bytes-room}
use Rattle.pack.specs.declared.Node.{Node}
use Rattle.pack.specs.Read.{node_of}
use Rattle.nodes.specs.Rows.{marks_of}
use Rattle.nodes.proofs.BufferLaws.{b, i, rs}
use Rattle.nodes.proofs.NullLaws.{null-bitmap, bits-lie, bits-null, from_is, bitmap-none}
use Rattle.nodes.proofs.filter_nulls.Goals as goal
use Rattle.nodes.proofs.filter_nulls.Goals.{After-node-node, Then-null}

-- a row is null; the code reads the marks from a bit on, and the bitmap is these packed bits
module _ (c : Then-null) {node : Node} (is : node ≡ node_of (b c.args.picked) (i c.args.picked)) where
  has-null : any_null (marks_of c.args.picked) ≡ true
  has-null = sym c.requires.null_value.0 ∙ c.if-null.true

  is-bitmap : bitmap (marks_of c.args.picked) ≡ holds (packed (map (bit_from (b c.args.picked) (8 * node.validity_at + node.skip)) (rs c.args.picked)))
  is-bitmap = let p = c.args.picked in null-bitmap (b p) (i p) (rs p) _ has-null (from_is (b p) (i p) node is)

pub pad-start-requires : goal.pad-start-requires
pad-start-requires c =
    let n = node_of (b c.args.picked) (i c.args.picked) in
    pad-room _ _ (is-bitmap (goal.at.pad-start-requires c).Then-null {node = n} refl) c.requires.room

-- the bits fit behind the padding
fits : (c : After-node-node) →
    let p = c.args.picked in
    c.pad-start.result + length (packed (map (bit_from (b p) (8 * c.node-node.result.validity_at + c.node-node.result.skip)) (rs p))) ≤ length c.pad-start.new.out
fits c =
    let w = c.pad-start.ensures in
    rw (same_size w) (bytes-room c.args.at (length c.args.out.now) (is-bitmap (goal.at.After-node-node c).Then-null c.node-node.ensures) c.requires.room _ w.place)

pub filter_bits-next-requires : goal.filter_bits-next-requires
unfolding places
filter_bits-next-requires c =
    let p = c.args.picked in
    let limit = p.journal.now.sound.agree.limit p.index p.inside in
    let short = p.short in
    record { sourced = p.sourced; len_bound = omega arith; len_in_bounds = fits (goal.at.filter_bits-next-requires c).After-node-node }

pub null_count-requires : goal.null_count-requires
null_count-requires c =
    let p = c.args.picked in
    let t = (goal.at.null_count-requires c).Then-null in
    let lie =
    bits-lie (b p) (i p) (rs p) _ (has-null t c.node-node.ensures) (from_is (b p) (i p) _ c.node-node.ensures) c.pad-start.new.out c.pad-start.result c.args.count (fits (goal.at.null_count-requires c).After-node-node) c.requires.null_value.1 in
    let size = same_size c.pad-start.ensures in
    let same = same_size c.filter_bits-next.ensures in
    let small = c.requires.null_value.2 in
    (omega arith, omega arith)

pub returns-then-null : goal.returns-then-null
returns-then-null c =
    let p = c.args.picked in
    let t = (goal.at.returns-then-null c).Then-null in (
      puts-bytes (is-bitmap t c.node-node.ensures) c.pad-start.ensures c.filter_bits-next.ensures,
      c.null_count.ensures
          ∙ bits-null (b p) (i p) (rs p) _ (has-null t c.node-node.ensures) (from_is (b p) (i p) _ c.node-node.ensures) c.pad-start.new.out c.pad-start.result c.args.count (fits (goal.at.returns-then-null c).After-node-node) c.requires.null_value.1 c.filter_bits-next.ensures,
    )

pub returns : goal.returns
returns c = let none = sym c.requires.null_value.0 ∙ c.if-null.false in (puts_none (bitmap-none _ none) refl, sym (no-nulls _ none))
