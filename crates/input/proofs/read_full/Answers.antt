-- `input::read_full` meets its contract: what a turn reads stands behind what was read before. Assumes nothing.
use Rattle.std.proofs.Common.{◌≡◌, ℕ, ◌+◌, ◌-◌, ◌≤◌, List, ◌++◌, rules, length, take, sym, ap, ◌∙◌, subst, le_refl, drop_at, length-take-le}
use Rattle.std.proofs.lemmas.Slice.{take-put_mid_below}
use Rattle.std.specs.Io.KnownBytes.{Consumes}
use Rattle.std.proofs.KnownBytes.{Consumes-trans}
use borrow.Rule.Slice.PartMut.{put_mid, post_of}
use lib.Seq.{take-add, take-append-le}
use Rattle.input.proofs.read_full.Goals as goal

-- the front as it was, and the first n elements put behind it
front_more : (a k n : ℕ) (xs ys : List ℕ) → a ≤ length xs → n ≤ length ys → take a xs ++ take n ys ≡ take (a + n) (put_mid a k xs ys)
front_more a k n xs ys within fits =
    let after = post_of a k xs in
    let behind = ap (take n) (drop_at (take a xs) (ys ++ after) a (length-take-le a xs within)) ∙ take-append-le n ys after fits in
    let front = take-put_mid_below a k xs ys a (le_refl a) within in
    ap (λ (l : List ℕ). l ++ take n ys) (sym front)
    ∙ ap (λ (l : List ℕ). take a (put_mid a k xs ys) ++ l) (sym behind)
    ∙ sym (take-add a n (put_mid a k xs ys))

pub loop-read-preserved : goal.loop-read-preserved
loop-read-preserved g c =
    let from = c.loop-read.read in
    let room = length c.loop-read.buffer - from in
    let more = front_more from room c.in-Ok.n c.loop-read.buffer c.read.new.buf c.loop-read.invariant.inside c.in-Ok.ensures.bound.0 in
    record {
      inside = search rules;
      read = subst (Consumes _ _) more (Consumes-trans _ _ _ _ _ c.loop-read.invariant.read c.in-Ok.ensures.bytes.0);
    }
