-- `words::put_array` meets its contract. Assumes nothing.
use Rattle.std.proofs.Common.{◌≡◌, length, length-drop, length-take, arith, ◌∙◌, ap, sym}
use borrow.Rule.Slice.PartMut.{put_mid}
use Rattle.format.proofs.Put.{put-part}
use Rattle.words.proofs.put_array.Goals as goal

pub returns : goal.returns
returns g c =
    -- the array has as many bytes as the part that it goes to
    let long : length c.args.bytes ≡ g.row.N = ap length (sym c.copy_from_slice.ensures.after) ∙ c.copy_from_slice.ensures.len ∙ rw (length-take, length-drop) (omega (arith, c.requires)) in
    record {
      bytes = ap (put_mid _ _ _) c.copy_from_slice.ensures.after ∙ put-part _ _ _ _ (omega arith) c.requires (long ∙ omega arith);
      place = rw long;
    }
