-- What a read's answer means, and what stands in the slice behind it.
use Rattle.std.specs.Prelude.{ℕ, zero, suc, ◌≡◌, ◌+◌, ◌≤◌, List, ◌++◌, length, take, drop, Option, Some, Result, Ok, Err}
use Rattle.std.proofs.Common.{sym, ap, subst, ◌∙◌, arith, le_refl, drop_at, length-take-le}
use Rattle.std.proofs.KnownBytes.{Consumes-trans}
use Rattle.std.proofs.lemmas.Slice.{take-put_mid_below}
use Rattle.std.specs.Io.{ReadsAtMost}
use Rattle.std.specs.Io.KnownBytes.{Consumes, ReadConsumes}
use borrow.Rule.Slice.PartMut.{put_mid, post_of}
use lib.Seq.{take-add, take-append-le}
use Rattle.io.specs.Counts.{IsPrefixLen}
use Rattle.streams.specs.Input.{step_after}

-- what a read put behind the first d bytes, as far as it counts
put_front : (d k m : ℕ) (xs ys : List ℕ) → d ≤ length xs → k ≤ length ys → take (d + k) (put_mid d m xs ys) ≡ take d xs ++ take k ys
put_front d k m xs ys within fits =
    let behind : drop d (put_mid d m xs ys) ≡ ys ++ post_of d m xs = drop_at (take d xs) (ys ++ post_of d m xs) d (length-take-le d xs within) in
    let part : take k (drop d (put_mid d m xs ys)) ≡ take k ys = ap (take k) behind ∙ take-append-le k ys (post_of d m xs) fits in
    let front : take d (put_mid d m xs ys) ≡ take d xs = take-put_mid_below d m xs ys d (le_refl d) within in
    take-add d k (put_mid d m xs ys) ∙ ap (λ l. l ++ take k (drop d (put_mid d m xs ys))) front ∙ ap (λ l. take d xs ++ l) part

-- more bytes are those of a read that gave as many: they too are taken from the source
pub more_taken : (d k m : ℕ) (a b c : Option (List ℕ)) (xs ys : List ℕ) → d ≤ length xs → k ≤ length ys
    → Consumes a b (take d xs) → Consumes b c (take k ys) → Consumes a c (take (d + k) (put_mid d m xs ys))
more_taken d k m a b c xs ys within fits before read =
    subst (Consumes a c) (sym (put_front d k m xs ys within fits)) (Consumes-trans a b c _ _ before read)

-- the same of a read whose answer means that there are more
pub step_taken : {E : Type 0} (d k m : ℕ) (r : Result ℕ E) (a b c : Option (List ℕ)) (xs ys : List ℕ) → Ok (Some k) ≡ step_after r → d ≤ length xs
    → Consumes a b (take d xs) → ReadsAtMost r ys → ReadConsumes b c r ys → Consumes a c (take (d + k) (put_mid d m xs ys))
step_taken d k m (Ok zero) a b c xs ys e within before bound read = absurd (cc)
step_taken d k m (Ok (suc n)) a b c xs ys e within before bound read =
    let same : k ≡ suc n = cc in
    let fits : k ≤ length ys = omega (arith, bound.0) in
    let took : Consumes b c (take k ys) = subst (λ (x : ℕ). Consumes b c (take x ys)) (sym same) read.0 in
    more_taken d k m a b c xs ys within fits before took
step_taken d k m (Err x) a b c xs ys e within before bound read = absurd (cc)

-- so many bytes are counted in front of a slice that has them
pub counted : (n : ℕ) (xs : List ℕ) → n ≤ length xs → IsPrefixLen n xs
counted n xs h = (h, sym (length-take-le n xs h))
