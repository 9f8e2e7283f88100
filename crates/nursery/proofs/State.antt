-- Eight houses as the calls alone settle them, and a nursery that holds them; what is read there, and what bars a call.
use Rattle.std.specs.Prelude.{if◌then◌else◌}
use mathlib.Core.Path.{◌≡◌, refl, sym, ap, ap₂, ◌∙◌, subst}
use Prim.Native.Nat.{ℕ, zero, suc, ◌+◌, ◌≤◌, ◌<◌}
use native.Mathlib.Omega.{arith}
use native.Mathlib.Decide.{dec_lt}
use mathlib.Core.Bool.{Bool, true, false, not, ◌&&◌}
use mathlib.Core.Option.{Option, none, some}
use mathlib.Core.List.{List, [], ◌∷◌, map}
use lib.ListN.{length, get_or, set, length-map, get_or-replicate, get_or-map}
use lib.Seq.{set_out}
use borrow.Author.Tests.{le-ltb}
use Rattle.model.specs.Basics.{count_from, sum, up_to}
use Rattle.model.specs.Register.{Register, empty}
use Rattle.model.specs.Tables.{Counts, Tables, cleared, counts_of, fits, held, no_counts, stored_of, tables_of}
use Rattle.model.specs.Calls.{House}
use Rattle.model.specs.Notions.{Reachable}
use Rattle.model.proofs.Basics.Counting.{AllBelow}
use Rattle.model.proofs.Computing.{computing}
use Rattle.theory.proofs.Registers.Equality.{stored_parts}
use Rattle.theory.proofs.Registers.Kept.{kept_held}
use Rattle.theory.proofs.Registers.Reachable.{kept, reachable_empty}
use Rattle.nursery.specs.Licence.{houses, licence, limit_of, overfull, reserves}
use Rattle.nursery.specs.Nursery.{Nursery, edges_in, house_in, limit_in, no_houses, register_in, removals_in, stored_in, tables_in, vertices_in}
use Rattle.nursery.specs.Calls.{Call, all_fit, any_damaged, barred, brings_eight, edges_but, is_own, not_grown, out_of_place, own_of}
use Rattle.nursery.specs.Series.{Site, edges_at, empty_site, house_at, limit_at, register_at, removals_at, vertices_at}
use Rattle.nursery.proofs.Licence.{without_own}
use Rattle.nursery.proofs.Parts.{Sized, cleared_sized, house_cleared, sized_fits}

-- eight registers that landing leaves, together within the licence
pub record Sound (s : Site) : Type 0 where
  pub eight : length s.registers ≡ houses
  pub eight_removals : length s.removals ≡ houses
  pub eight_shares : length s.shares ≡ houses
  pub reachable : (h : ℕ) → h < houses → Reachable (register_at h s)
  pub within : sum (reserves s.shares (edges_at s)) ≤ licence

-- and the nursery holds them
pub record Holds (n : Nursery) (s : Site) : Type 0 where
  pub sized : Sized houses n.tables
  pub tables_are : (h : ℕ) → h < houses → tables_in h n.tables ≡ tables_of (register_at h s)
  pub heads_are : n.heads ≡ map counts_of s.registers
  pub removals_are : n.removals ≡ s.removals
  pub shares_are : n.shares ≡ s.shares

-- ---- what is read there

edges_counted : (rs : List Register) → map (λ (c : Counts). c.edges) (map counts_of rs) ≡ map (λ (r : Register). length r.edges) rs
unfolding counts_of
edges_counted [] = refl
edges_counted (r ∷ rs) = ap (λ (ns : List ℕ). length r.edges ∷ ns) (edges_counted rs)

vertices_counted : (rs : List Register) → map (λ (c : Counts). c.vertices) (map counts_of rs) ≡ map (λ (r : Register). r.vertices) rs
unfolding counts_of
vertices_counted [] = refl
vertices_counted (r ∷ rs) = ap (λ (ns : List ℕ). r.vertices ∷ ns) (vertices_counted rs)

-- cleared counts are those of the empty register
pub empty_counts : no_counts ≡ counts_of empty
unfolding no_counts counts_of empty
empty_counts = refl

pub edges_are : (n : Nursery) (s : Site) → Holds n s → edges_in n ≡ edges_at s
unfolding edges_in edges_at
edges_are n s k = ap (λ (cs : List Counts). map (λ (c : Counts). c.edges) cs) k.heads_are ∙ edges_counted s.registers

pub vertices_are : (n : Nursery) (s : Site) → Holds n s → vertices_in n ≡ vertices_at s
unfolding vertices_in vertices_at
vertices_are n s k = ap (λ (cs : List Counts). map (λ (c : Counts). c.vertices) cs) k.heads_are ∙ vertices_counted s.registers

pub eight_edges : (s : Site) → Sound s → length (edges_at s) ≡ houses
unfolding edges_at
eight_edges s o = length-map s.registers (λ (r : Register). length r.edges) ∙ o.eight

pub as_many : (s : Site) → Sound s → length s.shares ≡ length (edges_at s)
as_many s o = o.eight_shares ∙ sym (eight_edges s o)

pub edges_at_lem : (s : Site) (h : ℕ) → get_or (edges_at s) h 0 ≡ length (register_at h s).edges
unfolding edges_at register_at empty
edges_at_lem s h = get_or-map (λ (r : Register). length r.edges) s.registers h empty

pub stored_is : (n : Nursery) (s : Site) → Holds n s → (h : ℕ) → h < houses → stored_in h n ≡ stored_of (register_at h s)
unfolding stored_in stored_of register_at
stored_is n s k h l =
    stored_parts (k.tables_are h l)
    (ap₂ (λ (cs : List Counts) (d : Counts). get_or cs h d) k.heads_are empty_counts ∙ get_or-map counts_of s.registers h empty)

limit_is : (n : Nursery) (s : Site) → Holds n s → (h : ℕ) → limit_in h n ≡ limit_at h s
unfolding limit_in limit_at
limit_is n s k h = ap₂ (λ (ss ns : List ℕ). limit_of h ss ns) k.shares_are (edges_are n s k)

pub removals_is : (n : Nursery) (s : Site) → Holds n s → (h : ℕ) → removals_in h n ≡ removals_at h s
unfolding removals_in removals_at
removals_is n s k h = ap (λ (xs : List ℕ). get_or xs h 0) k.removals_are

house_parts : {r r' : Register} {l l' k k' : ℕ} → r ≡ r' → l ≡ l' → k ≡ k'
    → ◌≡◌ {A = House} (record { register = r; limit = l; removals = k }) (record { register = r'; limit = l'; removals = k' })
house_parts p q t = λ i. record { register = p i; limit = q i; removals = t i }

held_register : (h : ℕ) (n : Nursery) (r : Register) → held (stored_in h n) ≡ some r → register_in h n ≡ r
unfolding register_in
held_register h n r e = rw (e, register_in)

-- ---- what bars a call

in_range : (at n k : ℕ) → at + n ≤ k → AllBelow k (count_from at n)
unfolding count_from
in_range at zero k l = tt
in_range at (suc n) k l = (omega arith, in_range (suc at) n k (omega arith))

all_houses : AllBelow houses (up_to houses)
unfolding up_to
all_houses = in_range 0 houses houses (omega arith)

module _ (n : Nursery) (s : Site) (o : Sound s) (k : Holds n s) where
  -- each house holds the register that the calls settle
  pub held_is : (h : ℕ) → h < houses → held (stored_in h n) ≡ some (register_at h s)
  held_is h l = ap held (stored_is n s k h l) ∙ kept_held (register_at h s) (kept (register_at h s) (o.reachable h l))

  -- so it has the limit and the count that they settle
  pub house_is : (h : ℕ) → h < houses → house_in h n ≡ house_at h s
  unfolding house_in house_at
  house_is h l = house_parts (held_register h n (register_at h s) (held_is h l)) (limit_is n s k h) (removals_is n s k h)

  none_damaged : (own : Option ℕ) (hs : List ℕ) → AllBelow houses hs → any_damaged own n hs ≡ false
  unfolding any_damaged
  none_damaged own [] a = refl
  none_damaged own (h ∷ hs) a = go (is_own own h) refl (none_damaged own hs a.1)
    where
      go : (b : Bool) → is_own own h ≡ b → any_damaged own n hs ≡ false → any_damaged own n (h ∷ hs) ≡ false
      go true q i = rw (q, any_damaged) i
      go false q i = rw (q, any_damaged, held_is h a.0) i

  -- the sum, with any house as empty
  sum_but : (h : ℕ) → sum (reserves s.shares (set (edges_at s) h 0)) ≤ licence
  sum_but h = go (dec_lt h houses)
    where
      go : Dec (h < houses) → sum (reserves s.shares (set (edges_at s) h 0)) ≤ licence
      go (yes l) = omega (arith, without_own h s.shares (edges_at s) (as_many s o) (omega (arith, l, o.eight_shares)), o.within)
      go (no l) = rw (set_out (edges_at s) h 0 (omega (arith, l, eight_edges s o))) o.within

  not_overfull : (own : Option ℕ) → overfull n.shares (edges_but own (edges_in n)) ≡ false
  unfolding overfull edges_but
  not_overfull none = rw (edges_are n s k, k.shares_are) (le-ltb licence (sum (reserves s.shares (edges_at s))) o.within)
  not_overfull (some h) = rw (edges_are n s k, k.shares_are) (le-ltb licence (sum (reserves s.shares (set (edges_at s) h 0))) (sum_but h))

  is_grown : (own : Option ℕ) → not_grown own n ≡ false
  unfolding not_grown
  is_grown own = rw (none_damaged own (up_to houses) all_houses) (not_overfull own)

  pub fit_is : (c : Call) (scratch : Tables) → all_fit c (record { nursery = n; scratch = scratch }) ≡ (fits scratch && brings_eight c)
  unfolding all_fit
  fit_is c scratch = rw (sized_fits n k.sized (ap length k.shares_are ∙ o.eight_shares))

  -- 25 of what the call brings, and 37; 21 never
  pub barred_is : (c : Call) (scratch : Tables)
      → barred c (record { nursery = n; scratch = scratch }) ≡ (if not (fits scratch && brings_eight c) then some 25 else if out_of_place c (vertices_at s) then some 37 else none)
  unfolding barred
  barred_is c scratch = rw (fit_is c scratch, is_grown (own_of c), vertices_are n s k)

-- ---- at the start of a series

-- every house has the empty register
pub empty_register : (h : ℕ) → h < houses → register_at h empty_site ≡ empty
unfolding register_at empty_site
empty_register h l = get_or-replicate houses h empty empty l

no_reserves : sum (reserves empty_site.shares (edges_at empty_site)) ≡ 0
unfolding empty_site edges_at reserves sum empty
no_reserves = refl

-- eight empty registers are sound
pub sound_empty : Sound empty_site
unfolding empty_site
sound_empty =
    record {
      eight = refl;
      eight_removals = refl;
      eight_shares = refl;
      reachable = λ h l. subst Reachable (sym (empty_register h l)) reachable_empty;
      within = omega (arith, no_reserves);
    }

no_heads : no_houses.heads ≡ map counts_of empty_site.registers
unfolding no_houses empty_site no_counts counts_of empty
no_heads = refl

no_numbers : (no_houses.removals ≡ empty_site.removals) × (no_houses.shares ≡ empty_site.shares)
unfolding no_houses empty_site
no_numbers = (refl, refl)

cleared_is : cleared ≡ tables_of empty
unfolding computing
cleared_is = refl

-- and cleared houses hold them
pub holds_empty : Holds no_houses empty_site
holds_empty =
    record {
      sized = cleared_sized;
      tables_are = λ h l. house_cleared h l ∙ cleared_is ∙ ap tables_of (sym (empty_register h l));
      heads_are = no_heads;
      removals_are = no_numbers.0;
      shares_are = no_numbers.1;
    }
