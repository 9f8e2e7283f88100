-- Document 02, S-1, of the calls: whatever `write` is lent for a house, if it answers a count of bytes, then `grow` from these bytes leaves in a
-- house the tables and the head that were lent to `write`, if the limit there is as large as the pipes are many; in the same house it is.
use Rattle.std.specs.Prelude.{if◌then◌else◌}
use mathlib.Core.Path.{◌≡◌, refl, sym, ap, ◌∙◌, subst}
use mathlib.Core.Logic.{◌≢◌}
use Prim.Native.Nat.{ℕ, ◌≤◌, ◌<◌}
use native.Mathlib.Omega.{arith}
use mathlib.Core.Bool.{Bool, true, false}
use mathlib.Core.List.{List, [], ◌∷◌}
use mathlib.Core.Option.{Option, none, some}
use lib.ListN.{length, take, drop, set}
use lib.Seq.{take-append_seam}
use lib.Dec.{ltb}
use borrow.Author.Tests.{le-ltb, lt-ltb}
use Rattle.model.specs.Basics.{in_front, max_edges, sum, up_to}
use Rattle.model.specs.Register.{Register, empty}
use Rattle.model.specs.Format.{Read, grow_list, land_list, whole, written}
use Rattle.model.specs.Queries.{read, refuses, wrote}
use Rattle.model.specs.Tables.{Stored, counts_of, fits, held, stored_of}
use Rattle.model.specs.Calls.{Answer, House, answer, fills, writing}
use Rattle.model.specs.Notions.{Reachable}
use Rattle.model.proofs.Basics.Booleans.{not_both}
use Rattle.theory.proofs.Registers.OnlyHeld.{only_held}
use Rattle.theory.proofs.Registers.Written.{written_grows}
use Rattle.nursery.specs.Licence.{houses, licence, overfull, reserves}
use Rattle.nursery.specs.Nursery.{Nursery, edges_in, house_in, limit_in, register_in, stored_in}
use Rattle.nursery.specs.Calls.{HouseCall, Lent, Outcome, all_fit, any_damaged, barred, brings_eight, edges_but, effect, grown_by, grows, in_house, is_own, not_grown, out_of_place, own_of, read_effect, step, writes}
use Rattle.nursery.proofs.Licence.{own_within, without_own}
use Rattle.nursery.proofs.Within.{list_room}
use Rattle.nursery.proofs.Gate.{Open, is_open, open_inside, step_barred, step_effect, stored_put}
use Rattle.nursery.proofs.OnLicence.{among, as_many, below_eight, edges_held}

-- ---- a refusal is no count of bytes

not_wrote : (x k : ℕ) → refuses x ≢ wrote k
not_wrote x k e = let z : ◌≡◌ {A = ℕ} 0 1 = cc in omega arith

wrote_is : (m k : ℕ) → wrote m ≡ wrote k → m ≡ k
wrote_is m k e = cc

-- the bytes that are counted are the list
front_is : (slice : List ℕ) (s : House) (k : ℕ) → (answer (writing slice) s).reply ≡ wrote k → take k (answer (writing slice) s).slice ≡ written s.register
unfolding answer fills in_front
front_is slice s k = go (ltb (length slice) (length (written s.register)))
  where
    bs : List ℕ
    bs = written s.register

    answered : Bool → Answer
    answered b =
        if b then record { slice = slice; reply = refuses 9 }
        else record { slice = in_front bs slice; reply = wrote (length bs) }

    go : (b : Bool) → (answered b).reply ≡ wrote k → take k (answered b).slice ≡ bs
    go true e = absurd (not_wrote 9 k e)
    go false e = rw (← wrote_is (length bs) k e) (take-append_seam bs (drop (length bs) slice))

-- ---- growing from the list of a register, within a limit

growth : (limit : ℕ) (r : Register) → Reachable r → length r.edges ≤ limit → land_list limit empty (written r) ≡ record { register = r; stop = whole }
unfolding grow_list
growth limit r k b =
    let g : land_list max_edges empty (written r) ≡ record { register = r; stop = whole } = written_grows r k in
    list_room limit empty (written r) (subst (λ (d : Read). length d.register.edges ≤ limit) (sym g) b) ∙ g

-- a house that no call finds damaged, a grow does not
less_damaged : (own : Option ℕ) (n : Nursery) (hs : List ℕ) → any_damaged none n hs ≡ false → any_damaged own n hs ≡ false
unfolding any_damaged is_own
less_damaged own n [] e = refl
less_damaged own n (h ∷ hs) e = go (held (stored_in h n)) refl (λ z. less_damaged own n hs z)
  where
    Goal : Type 0
    Goal = any_damaged own n (h ∷ hs) ≡ false

    by_own : (r : Register) → held (stored_in h n) ≡ some r → (b : Bool) → is_own own h ≡ b → any_damaged own n hs ≡ false → Goal
    by_own r q true t i = rw (t, any_damaged) i
    by_own r q false t i = rw (t, any_damaged, q) i

    go : (o : Option Register) → held (stored_in h n) ≡ o → (any_damaged none n hs ≡ false → any_damaged own n hs ≡ false) → Goal
    go (some r) q ih = by_own r q (is_own own h) refl (ih (rw (q, any_damaged) at e))
    go none q ih = absurd (let z : true ≡ false = rw (q, any_damaged) at e in not_both true refl z)

module _ (h : ℕ) (slice : List ℕ) (l : Lent) (k : ℕ) (w : (step (in_house h (writes slice)) l).reply ≡ wrote k) where
  abbrev n : Nursery
  n = l.nursery

  abbrev r : Register
  r = register_in h n

  free : barred (in_house h (writes slice)) l ≡ none
  free = go (barred (in_house h (writes slice)) l) refl
    where
      go : (x : Option ℕ) → barred (in_house h (writes slice)) l ≡ x → barred (in_house h (writes slice)) l ≡ none
      go (some x) e = absurd (not_wrote x k (sym (ap (λ (p : Outcome). p.reply) (step_barred (in_house h (writes slice)) l x e)) ∙ w))
      go none e = e

  open_write : Open (in_house h (writes slice)) l
  open_write = is_open (in_house h (writes slice)) l free

  inside : h < houses
  inside = open_inside h (writes slice) l open_write

  held_there : held (stored_in h n) ≡ some r
  unfolding own_of grown_by is_own
  held_there = open_write.held_all h inside refl

  bytes_are : take k (step (in_house h (writes slice)) l).slice ≡ written r
  unfolding effect house_in
  bytes_are =
      let is = step_effect h (writes slice) l _ free refl in
      ap (λ (p : Outcome). take k p.slice) is ∙ front_is slice (house_in h n) k (sym (ap (λ (p : Outcome). p.reply) is) ∙ w)

  -- "Growing from it must leave identical tables": in any house g of any houses, whose limit is not below the pipes that are written
  pub grows_back : (g : ℕ) (m : Lent) → length m.nursery.heads ≡ houses → (stored_in h l.nursery).counts.edges ≤ limit_in g m.nursery
      → let c = in_house g (grows (take k (step (in_house h (writes slice)) l).slice)) in barred c m ≡ none
      → ((step c m).reply ≡ read whole) × (stored_in g (step c m).lent.nursery ≡ stored_in h l.nursery)
  unfolding effect read_effect house_in stored_of counts_of
  grows_back g m heads b e =
      let o = is_open _ m e in
      let i = open_inside g _ m o in
      let x = only_held (stored_in h n) r held_there in
      let few : length r.edges ≤ limit_in g m.nursery = omega (arith, b, ap (λ (t : Stored). t.counts.edges) x.stored_is) in
      let d : land_list (limit_in g m.nursery) empty (take k (step (in_house h (writes slice)) l).slice) ≡ record { register = r; stop = whole } =
      ap (land_list (limit_in g m.nursery) empty) bytes_are ∙ growth (limit_in g m.nursery) r x.reachable few in
      let is = step_effect g _ m (read_effect 0 (record { register = r; stop = whole })) e (ap (read_effect 0) d) in (
        ap (λ (p : Outcome). p.reply) is,
        ap (λ (p : Outcome). stored_in g p.lent.nursery) is ∙ stored_put g r 0 m.nursery i heads o.sized x.reachable ∙ sym x.stored_is,
      )

  -- ---- in the same house again, over the houses as `write` left them: 36 never stops it

  abbrev again : HouseCall
  again = grows (take k (step (in_house h (writes slice)) l).slice)

  grow_free : (m : Lent) → length l.nursery.heads ≡ houses → m.nursery ≡ l.nursery → fits m.scratch ≡ true → barred (in_house h again) m ≡ none
  unfolding barred all_fit brings_eight not_grown overfull own_of grown_by edges_but out_of_place
  grow_free m heads same f =
      let o = open_write in
      let a = among h (writes slice) l heads o in
      let less = without_own h n.shares (edges_in n) (as_many n h a) (below_eight n h a) in
      rw (
        same,
        o.nursery_fits_lem,
        f,
        less_damaged (some h) n (up_to houses) o.none_damaged,
        le-ltb licence (sum (reserves n.shares (set (edges_in n) h 0))) (omega (arith, less, o.within)),
        lt-ltb h houses inside,
      )

  pub grows_back_there : (m : Lent) → length l.nursery.heads ≡ houses → m.nursery ≡ l.nursery → fits m.scratch ≡ true
      → let c = in_house h (grows (take k (step (in_house h (writes slice)) l).slice)) in
      ((step c m).reply ≡ read whole) × (stored_in h (step c m).lent.nursery ≡ stored_in h l.nursery)
  unfolding limit_in own_of grown_by edges_but stored_of counts_of
  grows_back_there m heads same f =
      let a = among h (writes slice) l heads open_write in
      let own = own_within h n.shares (edges_in n) (as_many n h a) (below_eight n h a) open_write.within in
      let held_edges = edges_held h n r held_there in
      let is = ap (λ (t : Stored). t.counts.edges) (only_held (stored_in h n) r held_there).stored_is in
      let few : (stored_in h l.nursery).counts.edges ≤ limit_in h m.nursery =
      subst (λ (x : Nursery). (stored_in h l.nursery).counts.edges ≤ limit_in h x) (sym same) (omega (arith, own, held_edges, is)) in
      grows_back h m (ap (λ (x : Nursery). length x.heads) same ∙ heads) few (grow_free m heads same f)
