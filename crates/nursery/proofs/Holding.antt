-- Whatever is lent: where nothing bars a call that grows nothing, the nursery holds eight sound houses, those that are read from it.
use mathlib.Core.Path.{◌≡◌, refl, sym, ap, ◌∙◌, subst}
use Prim.Native.Nat.{ℕ, ◌≤◌, ◌<◌}
use native.Mathlib.Omega.{arith}
use mathlib.Core.Bool.{false}
use mathlib.Core.Option.{none, some}
use mathlib.Core.List.{List, map}
use lib.ListN.{length, get_or, length-map, get_or-map}
use lib.Seq.{ext_get_or}
use Rattle.model.specs.Basics.{sum, up_to}
use Rattle.model.specs.Register.{empty}
use Rattle.model.specs.Tables.{Counts, Stored, counts_of, held, no_counts, stored_of}
use Rattle.model.specs.Notions.{Reachable}
use Rattle.model.proofs.Basics.Lists.{get_d_counted, length_up_to}
use Rattle.theory.proofs.Registers.OnlyHeld.{only_held}
use Rattle.nursery.specs.Licence.{houses, licence, reserves}
use Rattle.nursery.specs.Nursery.{Nursery, edges_in, register_in, removals_in, stored_in}
use Rattle.nursery.specs.Calls.{Call, Lent, barred, edges_but, is_own, own_of}
use Rattle.nursery.specs.Series.{edges_at, register_at, removals_at}
use Rattle.nursery.specs.Notions.{site_of}
use Rattle.nursery.proofs.State.{Holds, Sound, edges_are, empty_counts}
use Rattle.nursery.proofs.Gate.{Open, is_open, register_reachable}

-- the houses that are read: the register of each ..
pub register_of : (n : Nursery) (h : ℕ) → h < houses → register_at h (site_of n) ≡ register_in h n
unfolding register_at site_of up_to
register_of n h l =
    get_d_counted (λ (g : ℕ). register_in g n) empty 0 houses h l ∙ ap (λ (g : ℕ). register_in g n) (omega arith)

-- .. and its count of removals
pub removals_of : (n : Nursery) (h : ℕ) → removals_at h (site_of n) ≡ removals_in h n
unfolding removals_at site_of removals_in
removals_of n h = refl

numbers_of : (n : Nursery) → (n.removals ≡ (site_of n).removals) × (n.shares ≡ (site_of n).shares)
unfolding site_of
numbers_of n = (refl, refl)

eight_registers : (n : Nursery) → length (site_of n).registers ≡ houses
unfolding site_of
eight_registers n = length-map (up_to houses) (λ (h : ℕ). register_in h n) ∙ length_up_to houses

-- nothing bars a call that grows nothing, and there are eight heads and eight counts, as their type has it
module _ (c : Call) (l : Lent) (grows-nothing : own_of c ≡ none) (free : barred c l ≡ none)
    (heads : length l.nursery.heads ≡ houses) (counts : length l.nursery.removals ≡ houses) where
  o : Open c l
  o = is_open c l free

  not_own : (h : ℕ) → is_own (own_of c) h ≡ false
  unfolding is_own
  not_own h = rw grows-nothing

  -- each house holds its register
  pub held_each : (h : ℕ) → h < houses → held (stored_in h l.nursery) ≡ some (register_in h l.nursery)
  held_each h m = o.held_all h m (not_own h)

  stored_each : (h : ℕ) → h < houses → stored_in h l.nursery ≡ stored_of (register_at h (site_of l.nursery))
  stored_each h m =
      (only_held (stored_in h l.nursery) (register_in h l.nursery) (held_each h m)).stored_is ∙ ap stored_of (sym (register_of l.nursery h m))

  heads_each : (h : ℕ) → h < length l.nursery.heads
      → get_or l.nursery.heads h no_counts ≡ get_or (map counts_of (site_of l.nursery).registers) h no_counts
  unfolding stored_in stored_of register_at
  heads_each h m =
      ap (λ (x : Stored). x.counts) (stored_each h (omega (arith, heads, m)))
      ∙ sym (ap (λ (d : Counts). get_or (map counts_of (site_of l.nursery).registers) h d) empty_counts ∙ get_or-map counts_of (site_of l.nursery).registers h empty)

  -- it holds the houses that are read from it
  pub holds_read : Holds l.nursery (site_of l.nursery)
  unfolding stored_in stored_of
  holds_read =
      record {
        sized = o.sized;
        tables_are = λ h m. ap (λ (x : Stored). x.tables) (stored_each h m);
        heads_are = ext_get_or no_counts l.nursery.heads (map counts_of (site_of l.nursery).registers)
            (heads ∙ sym (length-map (site_of l.nursery).registers counts_of ∙ eight_registers l.nursery)) heads_each;
        removals_are = (numbers_of l.nursery).0;
        shares_are = (numbers_of l.nursery).1;
      }

  none_but : (edges : List ℕ) → edges_but (own_of c) edges ≡ edges
  unfolding edges_but
  none_but edges = rw grows-nothing

  -- and they are sound
  pub sound_read : Sound (site_of l.nursery)
  sound_read =
      record {
        eight = eight_registers l.nursery;
        eight_removals = ap length (sym holds_read.removals_are) ∙ counts;
        eight_shares = ap length (sym holds_read.shares_are) ∙ o.eight_shares;
        reachable = λ h m. subst Reachable (sym (register_of l.nursery h m)) (register_reachable h l.nursery);
        within =
            subst (λ (shares : List ℕ). sum (reserves shares (edges_at (site_of l.nursery))) ≤ licence) holds_read.shares_are
            (subst (λ (edges : List ℕ). sum (reserves l.nursery.shares edges) ≤ licence)
            (none_but (edges_in l.nursery) ∙ edges_are l.nursery (site_of l.nursery) holds_read) o.within);
      }
