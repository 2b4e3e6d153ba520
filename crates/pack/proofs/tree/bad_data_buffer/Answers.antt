-- `pack::tree::bad_data_buffer` meets its contract: the fields are the nodes' own. Assumes nothing.
use Rattle.std.proofs.Common.{◌≡◌, ◌∙◌, refl, ap}
use lib.Dec.{eqb}
use Rattle.format.specs.declared.Kind.TheVariants.{Views, Native}
use Rattle.format.specs.Node.{has_no_bitmap, no_bitmap, kind_of, of_kind}
use Rattle.pack.specs.declared.Node.{Node}
use Rattle.pack.proofs.Bitmap.{none-just}
use Rattle.pack.proofs.Closed.{kind-is, kind-read}
use Rattle.pack.proofs.tree.bad_data_buffer.Goals as goal

pub returns : goal.returns
unfolding has_no_bitmap kind_of
returns c =
    let views : c.eq-views.result ≡ of_kind 6 c.args.pack.now c.args.p =
    c.eq-views.ensures ∙ kind-is _ _ 6 Views refl refl (λ e. cc) (kind-read _ _ c.node_at-above.ensures c.from.ensures) in
    let native : c.eq-native.result ≡ of_kind 2 c.args.pack.now c.args.i =
    c.eq-native.ensures ∙ kind-is _ _ 2 Native refl refl (λ e. cc) (kind-read _ _ c.node_at-n.ensures c.from-2.ensures) in
    let bare : c.is_none.result ≡ has_no_bitmap c.args.pack.now c.args.i =
    none-just _ _ _ _ c.bitmap.ensures c.is_none.ensures ∙ ap (λ (x : Node). eqb x.validity_at no_bitmap) c.node_at-n.ensures in
    rw (views, native, bare, c.node_at-n.ensures)
