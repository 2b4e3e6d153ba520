-- `append::fields::put_zeros` meets its contract: a part filled with zeros. Assumes nothing.
use Rattle.std.proofs.Common.{◌≡◌, ◌+◌, ◌-◌, length, take, drop, ap, sym, ◌∙◌, length-take, length-drop, arith}
use borrow.Rule.Slice.PartMut.{put_mid}
use Rattle.format.proofs.Put.{put-part}
use Rattle.append.specs.Cells.{zeros}
use Rattle.append.proofs.CellLaws.{length-zeros}
use Rattle.append.proofs.fields.put_zeros.Goals as goal

pub returns : goal.returns
unfolding zeros
returns c =
    let a = c.args in
    let part : length (take (a.at + a.n - a.at) (drop a.at a.out.now)) ≡ a.n = simp (length-take, length-drop) (omega (arith, c.requires)) in
    let filled : c.fill.new.self ≡ zeros a.n = c.fill.ensures.after (λ y e. e) ∙ ap zeros part in
    record {
      bytes = ap (put_mid a.at (a.at + a.n - a.at) a.out.now) filled ∙ put-part _ _ _ _ (omega arith) c.requires (length-zeros a.n ∙ omega arith);
      place = ap (a.at +◌) (sym (length-zeros a.n));
    }
