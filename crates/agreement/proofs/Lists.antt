-- Lists alone: tables that are maps, tables of pairs and padded tables; what a store does to them.
use mathlib.Core.Path.{◌≡◌, refl, sym, ap, ◌∙◌}
use mathlib.Core.Logic.{◌≢◌, ◌⊎◌, inl, inr}
use Prim.Native.Nat.{ℕ, zero, suc, ◌+◌, ◌*◌, ◌<◌}
use native.Mathlib.Omega.{arith}
use native.Mathlib.Nat.{not-suc-le-zero}
use mathlib.Core.List.{List, [], ◌∷◌, ◌++◌, map}
use lib.ListN.{length, get_or, set, drop, replicate, length-append, length-map, length-set, length-replicate}
use lib.Seq.{get_or-set_same, get_or-set_other, drop-cons, append_snoc, set-append_seam, ext_get_or}
use Rattle.model.specs.Basics.{count_from, in_front, up_to, max_edges}
use Rattle.model.specs.Graph.{Edge}
use Rattle.model.specs.Register.{Register}
use Rattle.model.specs.Tables.{edge_lengths, edge_volumes, ends_of, high_side, low_side, padded, sides_of}
use Rattle.tables.specs.Steps.{set_pair}
use Rattle.model.proofs.Basics.Lists.{length_up_to, get_d_counted}
use Rattle.model.proofs.Registers.ReadBack.{length_ends, length_lengths, length_volumes}

-- ---- a map of 0, 1, ..

-- a map of the numbers below n has n elements, and g i at place i
pub length_mapped : (g : ℕ → ℕ) (n : ℕ) → length (map g (up_to n)) ≡ n
length_mapped g n = length-map (up_to n) g ∙ length_up_to n

pub get_d_up_to : (g : ℕ → ℕ) (n i : ℕ) → i < n → get_or (map g (up_to n)) i 0 ≡ g i
unfolding up_to
get_d_up_to g n i h = get_d_counted g 0 0 n i h ∙ ap g (omega arith)

-- a list is the map that its elements say
pub is_map : (g : ℕ → ℕ) (n : ℕ) (xs : List ℕ) → length xs ≡ n → ((i : ℕ) → i < n → get_or xs i 0 ≡ g i) → xs ≡ map g (up_to n)
is_map g n xs e h =
    ext_get_or 0 xs (map g (up_to n)) (e ∙ sym (length_mapped g n)) (λ i b. h i (omega arith) ∙ sym (get_d_up_to g n i (omega arith)))

-- ---- tables of pairs

-- the pair of vertex or edge i
abbrev pub PairAt : List ℕ → ℕ → ℕ → ℕ → Type 0
PairAt xs i a b = (get_or xs (2 * i) 0 ≡ a) × (get_or xs (2 * i + 1) 0 ≡ b)

-- a stored pair leaves the length, stands where it was stored, and leaves the others
pub length_pair : (xs : List ℕ) (i a b : ℕ) → length (set_pair xs i a b) ≡ length xs
unfolding set_pair
length_pair xs i a b = simp length-set

pub pair_here : (xs : List ℕ) (i a b : ℕ) → 2 * i + 1 < length xs → PairAt (set_pair xs i a b) i a b
unfolding set_pair
pair_here xs i a b h = (
  get_or-set_other (set xs (2 * i) a) (2 * i + 1) (2 * i) b 0 (λ e. omega arith) ∙ get_or-set_same xs (2 * i) a 0 (omega arith),
  get_or-set_same (set xs (2 * i) a) (2 * i + 1) b 0 (rw length-set h),
)

pub pair_other : (xs : List ℕ) (i j a b : ℕ) → j ≢ i → PairAt (set_pair xs i a b) j (get_or xs (2 * j) 0) (get_or xs (2 * j + 1) 0)
unfolding set_pair
pair_other xs i j a b n = (
  get_or-set_other (set xs (2 * i) a) (2 * i + 1) (2 * j) b 0 (λ e. omega arith) ∙ get_or-set_other xs (2 * i) (2 * j) a 0 (λ e. n (omega arith)),
  get_or-set_other (set xs (2 * i) a) (2 * i + 1) (2 * j + 1) b 0 (λ e. n (omega arith)) ∙ get_or-set_other xs (2 * i) (2 * j + 1) a 0 (λ e. omega arith),
)

even_or_odd : (i : ℕ) → (j : ℕ) × ((i ≡ 2 * j) ⊎ (i ≡ 2 * j + 1))
even_or_odd zero = (0, inl refl)
even_or_odd (suc i) = go (even_or_odd i)
  where
    go : ((j : ℕ) × ((i ≡ 2 * j) ⊎ (i ≡ 2 * j + 1))) → (j : ℕ) × ((suc i ≡ 2 * j) ⊎ (suc i ≡ 2 * j + 1))
    go (j, inl e) = (j, inr (omega arith))
    go (j, inr e) = (suc j, inl (omega arith))

-- two tables are equal where their pairs are
pub by_pairs : (n : ℕ) (xs ys : List ℕ) → length xs ≡ 2 * n → length ys ≡ 2 * n
    → ((i : ℕ) → i < n → PairAt xs i (get_or ys (2 * i) 0) (get_or ys (2 * i + 1) 0)) → xs ≡ ys
by_pairs n xs ys e k h = ext_get_or 0 xs ys (omega arith) (λ i l. go i l (even_or_odd i))
  where
    go : (i : ℕ) → i < length xs → ((j : ℕ) × ((i ≡ 2 * j) ⊎ (i ≡ 2 * j + 1))) → get_or xs i 0 ≡ get_or ys i 0
    go i l (j, inl q) = rw q (h j (omega arith)).0
    go i l (j, inr q) = rw q (h j (omega arith)).1

sides_from_read : (r : Register) (at n i : ℕ) → i < n → PairAt (sides_of r (count_from at n)) i (low_side r (at + i)) (high_side r (at + i))
unfolding sides_of count_from
sides_from_read r at zero i h = absurd (not-suc-le-zero h)
sides_from_read r at (suc n) zero h =
    let z : at + 0 ≡ at = omega arith in
    (rw z refl, rw z refl)
sides_from_read r at (suc n) (suc i) h =
    let even : 2 * suc i ≡ suc (suc (2 * i)) = omega arith in
    let odd : 2 * suc i + 1 ≡ suc (suc (2 * i + 1)) = omega arith in
    let z : at + suc i ≡ suc at + i = omega arith in
    let ih = sides_from_read r (suc at) n i (omega arith) in
    (rw (even, z) ih.0, rw (odd, z) ih.1)

-- the table of sides has the two sides of each vertex
pub sides_of_read : (r : Register) (n v : ℕ) → v < n → PairAt (sides_of r (up_to n)) v (low_side r v) (high_side r v)
unfolding up_to
sides_of_read r n v h =
    let z : 0 + v ≡ v = omega arith in
    rw z at (sides_from_read r 0 n v h)

-- ---- padded tables

padded_snoc : (n : ℕ) (xs : List ℕ) (v : ℕ) → length xs < n → set (padded n xs) (length xs) v ≡ padded n (xs ++ (v ∷ []))
unfolding padded in_front
padded_snoc n xs v h =
    let zs : List ℕ = replicate n 0 in
    let d : drop (length xs) zs ≡ get_or zs (length xs) 0 ∷ drop (suc (length xs)) zs =
    drop-cons zs (length xs) 0 (rw length-replicate h) in
    let k : length (xs ++ (v ∷ [])) ≡ suc (length xs) = simp length-append (omega arith) in
    rw (d, set-append_seam xs _ (drop (suc (length xs)) (replicate n 0)) v, k) (sym (append_snoc xs v (drop (suc (length xs)) (replicate n 0))))

ends_snoc : (es : List Edge) (e : Edge) → ends_of (es ++ (e ∷ [])) ≡ ends_of es ++ (e.first ∷ []) ++ (e.second ∷ [])
unfolding ends_of
ends_snoc [] e = refl
ends_snoc (d ∷ es) e = ap (λ (l : List ℕ). d.first ∷ d.second ∷ l) (ends_snoc es e)

lengths_snoc : (es : List Edge) (e : Edge) → edge_lengths (es ++ (e ∷ [])) ≡ edge_lengths es ++ (e.len ∷ [])
unfolding edge_lengths
lengths_snoc [] e = refl
lengths_snoc (d ∷ es) e = ap (λ (l : List ℕ). d.len ∷ l) (lengths_snoc es e)

volumes_snoc : (es : List Edge) (e : Edge) → edge_volumes (es ++ (e ∷ [])) ≡ edge_volumes es ++ (e.volume ∷ [])
unfolding edge_volumes
volumes_snoc [] e = refl
volumes_snoc (d ∷ es) e = ap (λ (l : List ℕ). d.volume ∷ l) (volumes_snoc es e)

-- one edge more is stored behind the others: its ends, its length, its volume
pub ends_stored : (es : List Edge) (e : Edge) → length es < max_edges
    → set_pair (padded (2 * max_edges) (ends_of es)) (length es) e.first e.second ≡ padded (2 * max_edges) (ends_of (es ++ (e ∷ [])))
unfolding set_pair
ends_stored es e h =
    let xs = ends_of es in
    let one : set (padded 8192 xs) (2 * length es) e.first ≡ padded 8192 (xs ++ (e.first ∷ [])) =
    rw (← length_ends es) (padded_snoc 8192 xs e.first (omega (arith, length_ends es))) in
    let k : length (xs ++ (e.first ∷ [])) ≡ 2 * length es + 1 = simp length-append (omega (arith, length_ends es)) in
    rw (one, ← k, ends_snoc es e) (padded_snoc 8192 (xs ++ (e.first ∷ [])) e.second (omega arith))

pub lengths_stored : (es : List Edge) (e : Edge) → length es < max_edges
    → set (padded max_edges (edge_lengths es)) (length es) e.len ≡ padded max_edges (edge_lengths (es ++ (e ∷ [])))
lengths_stored es e h =
    rw (lengths_snoc es e, ← length_lengths es) (padded_snoc max_edges (edge_lengths es) e.len (omega (arith, length_lengths es)))

pub volumes_stored : (es : List Edge) (e : Edge) → length es < max_edges
    → set (padded max_edges (edge_volumes es)) (length es) e.volume ≡ padded max_edges (edge_volumes (es ++ (e ∷ [])))
volumes_stored es e h =
    rw (volumes_snoc es e, ← length_volumes es) (padded_snoc max_edges (edge_volumes es) e.volume (omega (arith, length_volumes es)))
