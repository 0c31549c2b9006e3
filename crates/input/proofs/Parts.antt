-- What stands in the front of a buffer, once a part was written behind it.
use Rattle.std.proofs.Common.{◌≡◌, ℕ, ◌+◌, ◌≤◌, List, ◌++◌, length, take, ap, subst, ◌∙◌, length-take-le}
use Rattle.std.proofs.Math.Seq.{take-append-add}
use borrow.Rule.Slice.PartMut.{put_mid, post_of}
use Rattle.std.proofs.lemmas.List.{take-append-le}

-- the front as it was, and the first n bytes of the part
pub front_more : (from room n : ℕ) (buffer part : List ℕ) → from ≤ length buffer → n ≤ length part →
    take (from + n) (put_mid from room buffer part) ≡ take from buffer ++ take n part
front_more from room n buffer part within fits =
    let after = post_of from room buffer in
    subst (λ k. take (k + n) (put_mid from room buffer part) ≡ take from buffer ++ take n part) (length-take-le from buffer within)
    (take-append-add (take from buffer) (part ++ after) n ∙ ap (λ l. take from buffer ++ l) (take-append-le n part after fits))
