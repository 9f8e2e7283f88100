-- The volume of a chain or ring, added up along the walks from its edge d, and where it is unknown.
use Rattle.std.specs.Prelude.{if◌then◌else◌}
use mathlib.Core.Path.{◌≡◌, refl, sym, ap, ◌∙◌}
use mathlib.Core.Logic.{◌⊎◌, inl, inr}
use Prim.Native.Nat.{ℕ, ◌+◌, ◌≤◌}
use native.Mathlib.Omega.{arith}
use mathlib.Core.Bool.{Bool, true, false}
use mathlib.Core.List.Memᴰ.{cases_cons as mem-cases}
use mathlib.Core.List.Memᴰ.{not-nil as mem-nil}
use mathlib.Core.List.{List, [], ◌∷◌, ◌++◌, map, map-append, Memᴰ as Mem}
use Rattle.model.specs.Basics.{sum}
use Rattle.model.specs.Graph.{Edge, after_of, any_unknown, chain_of, chain_volume, edge_at, edge_on_ring, once_round, onwards, open_chain, ring_chain, volume_at, volume_sum, Pass}
use Rattle.model.proofs.Basics.Volumes.{onto_append, unknown_in, volume_around, volume_fold, volume_onto}
use Rattle.model.proofs.Chains.Same.{chain_open, chain_ring}
use Rattle.model.proofs.Chains.Partition.{chain_has}

-- the volumes behind the regular vertices that a walk passes
abbrev pub passed : List Edge → List Pass → List ℕ
passed es ss = map (volume_at es) (map after_of ss)

-- a ring: once round, onto the volume of d
pub ring_volume : (es : List Edge) (d : ℕ) → edge_on_ring es d ≡ true
    → chain_volume es d ≡ volume_onto (volume_at es d) (passed es (once_round es d (edge_at es d).first))
unfolding chain_volume ring_chain
ring_volume es d t = rw (chain_ring es d t) (sym (volume_fold (volume_at es d) (passed es (once_round es d (edge_at es d).first))))

-- a chain: first along the walk from its second vertex, then along that from its first
pub chain_volume_lem : (es : List Edge) (d : ℕ) → edge_on_ring es d ≡ false
    → chain_volume es d ≡ volume_onto (volume_onto (volume_at es d) (passed es (onwards es d (edge_at es d).second))) (passed es (onwards es d (edge_at es d).first))
unfolding chain_volume open_chain
chain_volume_lem es d f =
    rw (chain_open es d f)
    (volume_around (volume_at es) back d on
    ∙ sym (volume_fold (volume_at es d) (map (volume_at es) (on ++ back)))
    ∙ ap (λ (vs : List ℕ). volume_onto (volume_at es d) vs) (map-append (volume_at es) on back)
    ∙ onto_append (volume_at es d) (map (volume_at es) on) (map (volume_at es) back))
  where
    back : List ℕ
    back = map after_of (onwards es d (edge_at es d).first)

    on : List ℕ
    on = map after_of (onwards es d (edge_at es d).second)

-- ---- unknown

part_of : (g : ℕ → ℕ) (ds : List ℕ) (d : ℕ) → Mem d ds → g d ≤ sum (map g ds)
unfolding sum
part_of g [] d m = absurd (mem-nil m)
part_of g (c ∷ ds) d m = go (mem-cases m) (λ k. part_of g ds d k)
  where
    go : (d ≡ c) ⊎ Mem d ds → (Mem d ds → g d ≤ sum (map g ds)) → g d ≤ g c + sum (map g ds)
    go (inl e) ih = omega (arith, ap g e)
    go (inr k) ih = omega (arith, ih k)

-- the volume is 0 only where that of an edge is
pub unknown_edge : (es : List Edge) (d : ℕ) → chain_volume es d ≡ 0 → (c : ℕ) × Mem c (chain_of es d).edges × (volume_at es c ≡ 0)
unfolding chain_volume volume_sum
unknown_edge es d z = go (any_unknown vs) refl z
  where
    ds : List ℕ
    ds = (chain_of es d).edges

    vs : List ℕ
    vs = map (volume_at es) ds

    go : (b : Bool) → any_unknown vs ≡ b → (if b then 0 else sum vs) ≡ 0 → (c : ℕ) × Mem c ds × (volume_at es c ≡ 0)
    go true u q = unknown_in (volume_at es) ds u
    go false u q = (d, chain_has es d, omega (arith, part_of (volume_at es) ds d (chain_has es d)))
