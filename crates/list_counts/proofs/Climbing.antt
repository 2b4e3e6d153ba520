-- The climb from a node to the root's rows through lists without a bitmap, level by level; and rows followed down them. Assumes nothing.
use Prim.Native.Nat.{ℕ, zero, suc, ◌+◌, ◌*◌, ◌≤◌, ◌<◌}
use mathlib.Core.Bool.{true}
use mathlib.Core.List.{List, [], ◌∷◌}
use mathlib.Core.Path.{◌≡◌, refl, sym, ap, ◌∙◌, fun_ext, subst}
use native.Mathlib.Nat.{mul-suc, mul-le-mul_left}
use native.Mathlib.Numerals.{add-one}
use native.Mathlib.Omega.{arith}
use lib.ListN.{length, set, length-set}
use Rattle.std.proofs.Common.{Bor}
use lib.Seq.{get_or-set_same, get_or-set_other}
use Rattle.format.specs.Node.{node_count, rows, parent, has_no_bitmap}
use Rattle.format.specs.Verdict.{one_of}
use Rattle.format.specs.Accepted.{Sound}
use Rattle.nesting.specs.Rows.{AtList, Level}
use Rattle.nesting.proofs.ByKind.{rows-small}
use Rattle.nesting.proofs.Levels.{level_all, parent-in}
use Rattle.nesting.proofs.ListAt.{list-wide, list-spans}
use Rattle.nesting.proofs.Tree.{list-child}
use Rattle.spans.specs.Spans.{first_offset, offset_from}
use Rattle.nesting.specs.declared.lists.List as nested
use Rattle.spans.specs.declared.Offsets.{Offsets}
use Rattle.list_counts.specs.Chains.{Bare, Starts, nowhere, level, started, followed, Step, Chain, none, more, Reaches, Descends, Climbed}
use Rattle.list_counts.proofs.Counts.{same, list-lies}
use Rattle.list_counts.proofs.Chained.{starts-root, starts-level, starts-below}

-- ---- a list without a bitmap

module _ {b : List ℕ} {i : ℕ} {l : nested.List} (h : Bare b i l) where
  pub bare-at : AtList b l.width l.node
  bare-at = rw h.here at l.at

  pub bare-plain : has_no_bitmap b l.node ≡ true
  bare-plain = rw h.is h.bare

  pub bare-first : l.first ≡ first_offset b l.width l.node
  bare-first = rw h.here at l.begins

-- ---- levels that stand in another array at the same places

module _ (b : List ℕ) (xs ys : List Offsets) where
  followed_same : (n : ℕ) → ((j : ℕ) → j < n → level ys j ≡ level xs j) → (r : ℕ) → followed b ys n r ≡ followed b xs n r
  unfolding followed
  followed_same zero h r = refl
  followed_same (suc n) h r = rw (h n (omega arith)) (followed_same n (λ j l. h j (omega arith)) _)

  chain_same : {n len : ℕ} → ((j : ℕ) → j < n → level ys j ≡ level xs j) → Chain b xs n len → Chain b ys n len
  chain_same h none = none
  chain_same {n = suc n} {len} h (more {m = m} s c) =
      let here : Step b (level ys n) len m = rw (h n (omega arith)) s in
      more here (chain_same (λ j l. h j (omega arith)) c)

-- ---- one level more

-- the array so far: `count` levels lead from node t's rows down to the node's
pub record Climbing (b : List ℕ) (node : ℕ) (xs : List Offsets) (count t : ℕ) : Type 0 where
  pub size : length xs ≡ 8
  pub some : 0 < t
  pub inside : t < node_count b
  pub chain : Chain b xs count (rows b t)
  pub down : (e : ℕ → ℕ) → Starts b t e → Starts b node (λ r. followed b xs count (e r))

pub climb-none : {b : List ℕ} {xs : List Offsets} {node : ℕ} → length xs ≡ 8 → 0 < node → node < node_count b → Climbing b node xs 0 node
unfolding followed
climb-none size some h = record { size = size; some = some; inside = h; chain = none; down = λ e s. s }

module _ {b : List ℕ} (sound : Sound b) {node : ℕ} {xs : List Offsets} {count t : ℕ} (c : Climbing b node xs count t) where
  pub up-inside : parent b t < node_count b
  up-inside = parent-in sound (level_all b t c.inside) c.some

  -- its parent p is a list without a bitmap, whose offsets are added
  module _ (room : count < 8) {p w : ℕ} (above : p ≡ parent b t) (list : AtList b w p) (plain : has_no_bitmap b p ≡ true) {o : Offsets} (wide : o.width ≡ w) (offset : o.first ≡ first_offset b w p) where
    is-child : t ≡ suc p
    is-child = list-child b [] sound t c.some c.inside w (rw above at list.is_list) ∙ ap suc (sym above)

    abbrev added : List Offsets
    added = set xs count o

    kept : (j : ℕ) → j < count → level added j ≡ level xs j
    kept j l = get_or-set_other xs count j o nowhere (λ q. omega arith)

    here : level added count ≡ o
    here = get_or-set_same xs count o nowhere (omega (arith, c.size))

    step : Step b o (rows b p) (rows b t)
    step =
        record {
          wide = rw wide (list-wide list);
          lies = rw wide (list-lies list offset);
          inside = λ r l. rw (wide, same list offset r, ap (rows b) is-child) ((list-spans list).inside r l);
        }

    chain_more : Chain b added (suc count) (rows b p)
    chain_more = let s : Step b (level added count) (rows b p) (rows b t) = rw here step in more s (chain_same b xs added kept c.chain)

    down-more : (e : ℕ → ℕ) → Starts b p e → Starts b node (λ r. followed b added (suc count) (e r))
    unfolding followed
    down-more e s =
        subst (Starts b node)
        (fun_ext (λ r. sym (rw (here, wide) (followed_same b xs added count kept _))))
        (c.down (λ r. offset_from w b o.first (e r)) (rw is-child (starts-below list plain offset s)))

    -- node u keeps the list's rows: the climb goes on there, or is done
    module _ {u : ℕ} (l : Level b p u) where
      pub climb-more : 0 < u → Climbing b node added (count + 1) u
      climb-more h =
          rw (add-one count)
          (record {
            size = simp length-set c.size;
            some = h;
            inside = l.inside;
            chain = rw l.long chain_more;
            down = λ e s. down-more e (starts-level l s);
          })

      starts_more : u ≡ 0 → Starts b node (followed b added (suc count))
      starts_more z = down-more (λ r. r) (starts-level l (rw (← z) at (starts-root b)))

      pub climb-done : node < node_count b → u ≡ 0 → {bytes : Bor (List ℕ)} → bytes.now ≡ b → Climbed b node (record { bytes = bytes; offsets = added; depth = count + 1 })
      climb-done h z q =
          rw (add-one count)
          (record {
            here = q;
            down =
                record {
                  few = room;
                  short = rows-small sound 0 (omega (arith, sound.shape.some));
                  chain = rw (sym l.long ∙ ap (rows b) z) at chain_more;
                  mounts = record { up = (starts_more z).up; fits = omega (arith, (starts_more z).inside (rows b 0) (omega arith), rows-small sound node h) };
                };
            starts = starts_more z;
          })

-- ---- a row followed down one level

-- level k serves row r: its offset lies in b, and is the row to follow down the levels below
pub record Served (b : List ℕ) (xs : List Offsets) (n k r : ℕ) : Type 0 where
  pub wide : one_of (2 ∷ 4 ∷ 8 ∷ []) (level xs k).width ≡ true
  pub lies : (level xs k).first + (level xs k).width * r + (level xs k).width ≤ length b
  pub next : {x : ℕ} → x ≡ started b (level xs k) r → Reaches b xs k x × (followed b xs k x ≡ followed b xs n r)

pub served : {b : List ℕ} {xs : List Offsets} {n k r : ℕ} → Reaches b xs n r → n ≡ k + 1 → Served b xs n k r
unfolding followed
served {b} {xs} {n} {k} {r} h e = rw (e, add-one k) (go (rw (e, add-one k) at h.chain))
  where
    go : Chain b xs (suc k) h.len → Served b xs (suc k) k r
    go (more {m = m} s c) =
        record {
          wide = s.wide;
          lies = omega (arith, s.lies, mul-suc (level xs k).width h.len, mul-le-mul_left (level xs k).width h.inside);
          next = λ q. (record { few = omega (arith, h.few); len = m; chain = c; inside = rw q (s.inside r h.inside) }, ap (followed b xs k) q);
        }

pub followed-none : (b : List ℕ) (xs : List Offsets) {n r : ℕ} → n ≡ 0 → followed b xs n r ≡ r
unfolding followed
followed-none b xs e = rw e

pub reaches : {b : List ℕ} {xs : List Offsets} {n r : ℕ} → Descends b xs n → r ≤ rows b 0 → Reaches b xs n r
reaches d l = record { few = d.few; len = _; chain = d.chain; inside = l }
