-- `checker::rows::other_rows` meets its contract: the fields are the nodes' own. Assumes nothing.
use Rattle.std.proofs.Common.{◌≡◌, ◌∙◌, refl}
use Rattle.format.specs.declared.Kind.TheVariants.{Struct, Union}
use Rattle.format.specs.Node.{kind_of, of_kind}
use Rattle.pack.proofs.Closed.{kind-is, kind-read}
use Rattle.checker.proofs.rows.other_rows.Goals as goal

pub returns : goal.returns
unfolding kind_of
returns c =
    let read = kind-read _ _ c.node_at-above.ensures c.from-kind.ensures in
    let struct : c.eq.result ≡ of_kind 10 c.args.pack.now c.args.p = c.eq.ensures ∙ kind-is _ _ 10 Struct refl refl (λ e. cc) read in
    let union : c.eq-2.result ≡ of_kind 11 c.args.pack.now c.args.p = c.eq-2.ensures ∙ kind-is _ _ 11 Union refl refl (λ e. cc) read in
    rw (struct, union, c.node_at-above.ensures, c.node_at-n.ensures)
