-- The ways out of reading a header.
use mathlib.Core.Path.{◌≡◌, ap}
use mathlib.Core.Logic.{◌≢◌}
use Prim.Native.Nat.{ℕ, ◌≤◌, ◌<◌}
use mathlib.Core.Bool.{true, false, ◌||◌}
use mathlib.Core.List.{List}
use lib.ListN.{length, get_or}
use lib.Dec.{eqb}
use borrow.Author.Tests.{eq-eqb, ne_eqb, le-leb, lt-leb, lt-ltb, le-ltb}
use Rattle.model.specs.Format.{byte_at, u16_at, has_mark, header_refusal, version_of}
use Rattle.list.specs.Reading.{good, bad_header, header_at, place}

module _ (bs : List ℕ) where
  -- the mark: too few bytes, another first, another second, and the third decides
  pub mark_short : length bs < 3 → false ≡ has_mark bs
  unfolding has_mark
  mark_short h = rw (lt-leb 3 (length bs) h)

  pub mark_first : 3 ≤ length bs → get_or bs 0 0 ≢ 0x50 → false ≡ has_mark bs
  unfolding has_mark byte_at
  mark_first l h = rw (le-leb 3 (length bs) l, ne_eqb _ _ h)

  pub mark_second : 3 ≤ length bs → get_or bs 0 0 ≡ 0x50 → get_or bs 1 0 ≢ 0x4E → false ≡ has_mark bs
  unfolding has_mark byte_at
  mark_second l a h = rw (le-leb 3 (length bs) l, eq-eqb _ _ a, ne_eqb _ _ h)

  pub mark_third : 3 ≤ length bs → get_or bs 0 0 ≡ 0x50 → get_or bs 1 0 ≡ 0x4E → eqb (get_or bs 2 0) 0x4C ≡ has_mark bs
  unfolding has_mark byte_at
  mark_third l a b = rw (le-leb 3 (length bs) l, eq-eqb _ _ a, eq-eqb _ _ b)

  -- no mark: 1; cut within the version: 3; neither version: 2
  pub header_mark : has_mark bs ≡ false → bad_header 1 ≡ header_at bs
  unfolding header_at header_refusal
  header_mark h = rw (h, header_at)

  pub header_cut : has_mark bs ≡ true → length bs < 5 → bad_header 3 ≡ header_at bs
  unfolding header_at header_refusal
  header_cut h l = rw (h, lt-ltb _ _ l, header_at)

  module _ (version : ℕ) (is : version ≡ u16_at bs 3) where
    pub header_version : has_mark bs ≡ true → 5 ≤ length bs → version ≢ 1 → version ≢ 2 → bad_header 2 ≡ header_at bs
    unfolding header_at header_refusal version_of
    header_version h l m n = rw (h, le-ltb _ _ l, ← is, ne_eqb _ _ m, ne_eqb _ _ n, header_at)

    -- the version is 1 or 2
    pub header_good : has_mark bs ≡ true → 5 ≤ length bs → (eqb version 1 || eqb version 2) ≡ true → good (place 5 version) ≡ header_at bs
    unfolding header_at header_refusal version_of
    header_good h l v =
        let w : (eqb (version_of bs) 1 || eqb (version_of bs) 2) ≡ true = rw is at v in
        rw (h, le-ltb _ _ l, w, header_at) (ap (λ (n : ℕ). good (place 5 n)) is)

-- 1 is a version, and 2 is
pub first_version : (version : ℕ) → version ≡ 1 → (eqb version 1 || eqb version 2) ≡ true
first_version version e = rw (eq-eqb version 1 e)

pub second_version : (version : ℕ) → version ≢ 1 → version ≡ 2 → (eqb version 1 || eqb version 2) ≡ true
second_version version n e = rw (ne_eqb version 1 n, eq-eqb version 2 e)
