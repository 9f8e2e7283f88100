-- The splits and taps of an edge leave what `Bared` says: one end or both, on no ring, on one ring or on two.
use mathlib.Core.Path.{◌≡◌, refl, sym, ◌∙◌, subst}
use mathlib.Core.Logic.{◌≢◌, ◌⊎◌, inl, inr}
use Prim.Native.Nat.{ℕ, suc, ◌+◌, ◌≤◌}
use native.Mathlib.Omega.{arith}
use native.Mathlib.Decide.{ℕ_discrete}
use mathlib.Core.Bool.{Bool, true, false}
use mathlib.Core.List.{List, [], ◌∷◌}
use lib.ListN.{length}
use borrow.Author.Tests.{eq-eqb, ne_eqb}
use Rattle.model.specs.Graph.{Edge, Pass, degree, ends_at, is_regular, lower_numbered, once_round}
use Rattle.model.specs.Labels.{Labelling, Marks, on_one_ring, passes, relabel_count, vertex_on_ring, split, split_or_tap, split_two, tap}
use Rattle.model.proofs.Basics.Booleans.{not_both, true_or_false}
use Rattle.model.proofs.Walks.Degree.{Proper, end_cases, end_first, end_second, is_two, not_two}
use Rattle.model.proofs.Walks.Turn.{lower_edge}
use Rattle.model.proofs.Walks.Places.{here, later, no_ith, InPath, Off, off_cons}
use Rattle.model.proofs.Walks.Tours.{Tour, OnTour, is_x, is_of, ring_tour, edge_on, tour_ring, tours_meet}
use Rattle.model.proofs.Labels.Following.{following, from_base}
use Rattle.theory.proofs.Labels.Cases.{bared}
use Rattle.theory.proofs.Labels.Taps.{Bared, Taps, Toured, before, no_tap, one_tap, relaid, two_taps}
use Rattle.theory.proofs.Labels.Except.{Among, Except, except_none, except_split, except_tap, split_moves, tap_moves}

-- the test of a vertex on a path
passes_yes : (v : ℕ) (ss : List Pass) → passes v ss ≡ true → InPath ss v
unfolding passes
passes_yes v [] e = absurd (not_both _ e refl)
passes_yes v (s ∷ ss) e = go (ℕ_discrete s.at v) (λ q. passes_yes v ss q)
  where
    go : Dec (s.at ≡ v) → (passes v ss ≡ true → InPath ss v) → InPath (s ∷ ss) v
    go (yes q) ih = record { index = 0; pass_is = s; ith = here; at_is = q }
    go (no q) ih = let f = ih (rw (ne_eqb s.at v q, passes) at e) in record { index = suc f.index; pass_is = f.pass_is; ith = later f.ith; at_is = f.at_is }

passes_no : (v : ℕ) (ss : List Pass) → passes v ss ≡ false → Off ss v
unfolding passes
passes_no v [] e = λ i s j. absurd (no_ith j)
passes_no v (s ∷ ss) e = go (ℕ_discrete s.at v) (λ q. passes_no v ss q)
  where
    go : Dec (s.at ≡ v) → (passes v ss ≡ false → Off ss v) → Off (s ∷ ss) v
    go (yes q) ih = absurd (not_both _ (rw (eq-eqb s.at v q, passes)) e)
    go (no q) ih = off_cons s ss v (ih (rw (ne_eqb s.at v q, passes) at e)) (λ z. q (sym z))

-- the ends xs are split or tapped
record Step (es : List Edge) (p : Edge) (xs : List ℕ) (blocks : ℕ) (m : Marks) (l : Labelling) : Type 0 where
  after : Marks
  k : ℕ
  taps : Taps es p blocks m l.blocks after k
  covered : (v : ℕ) → Among xs v → vertex_on_ring es v ≡ true → Toured taps v
  except : Except xs after l.marks
  moves : (ts : List ℕ) → relabel_count ts l.marks.labels ≤ relabel_count ts m.labels + k

module _ (es : List Edge) (p : Edge) (pr : Proper es) (d : p.first ≢ p.second) where
  bared_of : {xs : List ℕ} {blocks : ℕ} {m : Marks} {l : Labelling} → ((v : ℕ) → ends_at v p ≡ 1 → degree es v ≡ 2 → Among xs v)
      → ((v : ℕ) → Among xs v → (degree es v ≡ 2) × (ends_at v p ≡ 1)) → Step es p xs blocks m l → Bared es p blocks m l
  bared_of {xs} all only s = record {
    after = s.after;
    k = s.k;
    taps = s.taps;
    covered = λ v o c. s.covered v (all v o c);
    bare = record {
      label_off = λ v o c. s.except.off v (all v o c);
      label_kept = λ v o. s.except.label_same v (none v o);
      low_kept = λ v o. s.except.low_same v (none v o);
      labels_long = s.except.labels_long;
      lows_long = s.except.lows_long;
    };
    moves = s.moves;
  }
    where
      none : (v : ℕ) → degree es v ≢ 2 ⊎ (ends_at v p ≡ 0) → Among xs v → ⊥
      none v (inl n) a = n (only v a).0
      none v (inr z) a = omega (arith, z, (only v a).1)

  abbrev tap_marks : ℕ → ℕ → Marks → Marks
  tap_marks blocks v m = split v (following true (before (blocks + 1)) (once_round es (lower_numbered es v) v) m)

  split_or_tap_yes : (blocks v : ℕ) (m : Marks) → vertex_on_ring es v ≡ true → split_or_tap es blocks v m ≡ record { blocks = blocks + 1; marks = tap_marks blocks v m }
  unfolding split_or_tap tap
  split_or_tap_yes blocks v m t = rw (t, from_base blocks (once_round es (lower_numbered es v) v) m)

  split_or_tap_no : (blocks v : ℕ) (m : Marks) → vertex_on_ring es v ≡ false → split_or_tap es blocks v m ≡ record { blocks = blocks; marks = split v m }
  unfolding split_or_tap
  split_or_tap_no blocks v m t = rw t

  tour_of : (v : ℕ) → degree es v ≡ 2 → vertex_on_ring es v ≡ true → (q : ℕ) × Tour es v (lower_numbered es v) q (once_round es (lower_numbered es v) v)
  unfolding vertex_on_ring
  tour_of v c t = ring_tour es pr (lower_numbered es v) v t (lower_edge es v pr c)

  among_one : (v x : ℕ) → (v ≡ x) ⊎ ⊥ → v ≡ x
  among_one v x (inl e) = e
  among_one v x (inr a) = absurd a

  step_one : (blocks x : ℕ) (m : Marks) → ends_at x p ≡ 1 → degree es x ≡ 2 → Step es p (x ∷ []) blocks m (split_or_tap es blocks x m)
  step_one blocks x m o c = go (true_or_false (vertex_on_ring es x))
    where
      go : (vertex_on_ring es x ≡ true) ⊎ (vertex_on_ring es x ≡ false) → Step es p (x ∷ []) blocks m (split_or_tap es blocks x m)
      go (inl t) =
          let r = tour_of x c t in
          rw (split_or_tap_yes blocks x m t) (record {
            after = relaid (before (blocks + 1)) x r.0 (once_round es (lower_numbered es x) x) m;
            k = length (once_round es (lower_numbered es x) x);
            taps = one_tap x (lower_numbered es x) r.0 (once_round es (lower_numbered es x) x) o r.1 refl refl refl;
            covered = λ v a z. inl (among_one v x a);
            except = except_tap (before (blocks + 1)) x r.0 (once_round es (lower_numbered es x) x) (except_none m) (λ v a. absurd a);
            moves = λ ts. tap_moves ts (before (blocks + 1)) x (once_round es (lower_numbered es x) x) m;
          })
      go (inr t) = rw (split_or_tap_no blocks x m t) (record {
        after = m;
        k = 0;
        taps = no_tap refl refl refl;
        covered = λ v a z. not_both (vertex_on_ring es x) (subst (λ (w : ℕ). vertex_on_ring es w ≡ true) (among_one v x a) z) t;
        except = except_split x (except_none m);
        moves = λ ts. omega (arith, split_moves ts x m);
      })

  module _ (blocks x y : ℕ) (m : Marks) (ox : ends_at x p ≡ 1) (oy : ends_at y p ≡ 1) (xy : x ≢ y) (cx : degree es x ≡ 2) (cy : degree es y ≡ 2) where
    abbrev px : List Pass
    px = once_round es (lower_numbered es x) x

    abbrev py : List Pass
    py = once_round es (lower_numbered es y) y

    abbrev t₁ : ℕ
    t₁ = before (blocks + 1)

    abbrev t₂ : ℕ
    t₂ = before (blocks + 1 + 1)

    -- the two ends
    neither : (v : ℕ) → vertex_on_ring es x ≡ false → vertex_on_ring es y ≡ false → (v ≡ y) ⊎ ((v ≡ x) ⊎ ⊥) → vertex_on_ring es v ≡ true → ⊥
    neither v tx ty (inl e) z = not_both (vertex_on_ring es y) (subst (λ (w : ℕ). vertex_on_ring es w ≡ true) e z) ty
    neither v tx ty (inr (inl e)) z = not_both (vertex_on_ring es x) (subst (λ (w : ℕ). vertex_on_ring es w ≡ true) e z) tx
    neither v tx ty (inr (inr a)) z = a

    only_y : (v : ℕ) → vertex_on_ring es x ≡ false → (v ≡ y) ⊎ ((v ≡ x) ⊎ ⊥) → vertex_on_ring es v ≡ true → v ≡ y
    only_y v tx (inl e) z = e
    only_y v tx (inr (inl e)) z = absurd (not_both (vertex_on_ring es x) (subst (λ (w : ℕ). vertex_on_ring es w ≡ true) e z) tx)
    only_y v tx (inr (inr a)) z = absurd a

    on_px : (v : ℕ) → (vertex_on_ring es y ≡ true → InPath px y) → (v ≡ y) ⊎ ((v ≡ x) ⊎ ⊥) → vertex_on_ring es v ≡ true → (v ≡ x) ⊎ InPath px v
    on_px v on (inl e) z = inr (subst (λ (w : ℕ). InPath px w) (sym e) (on (subst (λ (w : ℕ). vertex_on_ring es w ≡ true) e z)))
    on_px v on (inr (inl e)) z = inl e
    on_px v on (inr (inr a)) z = absurd a

    on_either : (v : ℕ) → (v ≡ y) ⊎ ((v ≡ x) ⊎ ⊥) → ((v ≡ x) ⊎ InPath px v) ⊎ ((v ≡ y) ⊎ InPath py v)
    on_either v (inl e) = inr (inl e)
    on_either v (inr (inl e)) = inl (inl e)
    on_either v (inr (inr a)) = absurd a

    two_none : vertex_on_ring es x ≡ false → (vertex_on_ring es y ≡ true) ⊎ (vertex_on_ring es y ≡ false) → Step es p (y ∷ x ∷ []) blocks m (split_or_tap es blocks y (split x m))
    unfolding vertex_on_ring
    two_none tx (inr t) = rw (split_or_tap_no blocks y (split x m) t) (record {
      after = m;
      k = 0;
      taps = no_tap refl refl refl;
      covered = λ v a z. neither v tx t a z;
      except = except_split y (except_split x (except_none m));
      moves = λ ts. omega (arith, split_moves ts y (split x m), split_moves ts x m);
    })
    two_none tx (inl t) =
        let r = tour_of y cy t in
        rw (split_or_tap_yes blocks y (split x m) t) (record {
          after = relaid t₁ y r.0 py m;
          k = length py;
          taps = one_tap y (lower_numbered es y) r.0 py oy r.1 refl refl refl;
          covered = λ v a z. inl (only_y v tx a z);
          except = except_tap t₁ y r.0 py (except_split x (except_none m)) (λ v a. off_x r.0 r.1 v a);
          moves = λ ts. omega (arith, tap_moves ts t₁ y py (split x m), split_moves ts x m);
        })
      where
        -- x is on no ring
        off_x : (q : ℕ) → Tour es y (lower_numbered es y) q py → (v : ℕ) → (v ≡ x) ⊎ ⊥ → Off py v
        off_x q r v (inr a) = absurd a
        off_x q r v (inl e) = λ i s j k.
            let on : OnTour pr r x = is_of (record { index = i; pass_is = s; ith = j; at_is = k ∙ e }) in
            let a = lower_edge es x pr cx in
            not_both _ (tour_ring pr r (lower_numbered es x) (edge_on pr r x (lower_numbered es x) on a) a.inside) tx

    one_ring : (q : ℕ) → Tour es x (lower_numbered es x) q px → (vertex_on_ring es y ≡ true → InPath px y) → Step es p (y ∷ x ∷ []) blocks m (record { blocks = blocks + 1; marks = split y (tap_marks blocks x m) })
    one_ring q r on = record {
      after = relaid t₁ x q px m;
      k = length px;
      taps = one_tap x (lower_numbered es x) q px ox r refl refl refl;
      covered = λ v a z. on_px v on a z;
      except = except_split y (except_tap t₁ x q px (except_none m) (λ v a. absurd a));
      moves = λ ts. omega (arith, split_moves ts y (tap_marks blocks x m), tap_moves ts t₁ x px m);
    }

    two_rings_lem : (q : ℕ) → Tour es x (lower_numbered es x) q px → Off px y → (vertex_on_ring es y ≡ true) ⊎ (vertex_on_ring es y ≡ false)
        → Step es p (y ∷ x ∷ []) blocks m (split_or_tap es (blocks + 1) y (tap_marks blocks x m))
    two_rings_lem q r oy' (inr t) = rw (split_or_tap_no (blocks + 1) y (tap_marks blocks x m) t) (one_ring q r (λ z. absurd (not_both _ z t)))
    two_rings_lem q r oy' (inl t) =
        let r' = tour_of y cy t in
        rw (split_or_tap_yes (blocks + 1) y (tap_marks blocks x m) t) (record {
          after = relaid t₂ y r'.0 py (relaid t₁ x q px m);
          k = length px + length py;
          taps = two_taps x (lower_numbered es x) q px y (lower_numbered es y) r'.0 py ox oy xy oy' r r'.1 refl refl refl;
          covered = λ v a z. on_either v a;
          except = except_tap t₂ y r'.0 py (except_tap t₁ x q px (except_none m) (λ v a. absurd a)) (λ v a. off_x r'.0 r'.1 v a);
          moves = λ ts. omega (arith, tap_moves ts t₂ y py (tap_marks blocks x m), tap_moves ts t₁ x px m);
        })
      where
        meets : OnTour pr r y → ⊥
        meets (is_x e) = xy (sym e)
        meets (is_of f) = oy' f.index f.pass_is f.ith f.at_is

        off_x : (q' : ℕ) → Tour es y (lower_numbered es y) q' py → (v : ℕ) → (v ≡ x) ⊎ ⊥ → Off py v
        off_x q' r' v (inr a) = absurd a
        off_x q' r' v (inl e) = λ i s j k. meets (tours_meet pr r r' (record { index = i; pass_is = s; ith = j; at_is = k ∙ e }))

    step_two : Step es p (y ∷ x ∷ []) blocks m (split_two es blocks x y m)
    unfolding split_two on_one_ring
    step_two = go (true_or_false (vertex_on_ring es x)) (true_or_false (passes y px))
      where
        go : (vertex_on_ring es x ≡ true) ⊎ (vertex_on_ring es x ≡ false) → (passes y px ≡ true) ⊎ (passes y px ≡ false) → Step es p (y ∷ x ∷ []) blocks m (split_two es blocks x y m)
        go (inl t) (inl u) = let r = tour_of x cx t in rw (split_or_tap_yes blocks x m t, t, u) (one_ring r.0 r.1 (λ z. passes_yes y px u))
        go (inl t) (inr u) = let r = tour_of x cx t in rw (split_or_tap_yes blocks x m t, t, u) (two_rings_lem r.0 r.1 (passes_no y px u) (true_or_false (vertex_on_ring es y)))
        go (inr t) u = rw (split_or_tap_no blocks x m t, t) (two_none t (true_or_false (vertex_on_ring es y)))

  -- what is split and tapped leaves what `Bared` says
  pub bared_is : (blocks : ℕ) (m : Marks) → Bared es p blocks m (bared (is_regular es p.first) (is_regular es p.second) es p blocks m)
  unfolding bared
  bared_is blocks m = go (is_regular es p.first) (is_regular es p.second) refl refl
    where
      o₁ : ends_at p.first p ≡ 1
      o₁ = end_first p d

      o₂ : ends_at p.second p ≡ 1
      o₂ = end_second p d

      go : (a b : Bool) → is_regular es p.first ≡ a → is_regular es p.second ≡ b → Bared es p blocks m (bared a b es p blocks m)
      go true true ea eb =
          bared_of (λ v o c. both v (end_cases p v o)) only
          (step_two blocks p.first p.second m o₁ o₂ d (is_two es p.first ea) (is_two es p.second eb))
        where
          both : (v : ℕ) → (p.first ≡ v) ⊎ (p.second ≡ v) → (v ≡ p.second) ⊎ ((v ≡ p.first) ⊎ ⊥)
          both v (inl q) = inr (inl (sym q))
          both v (inr q) = inl (sym q)

          only : (v : ℕ) → (v ≡ p.second) ⊎ ((v ≡ p.first) ⊎ ⊥) → (degree es v ≡ 2) × (ends_at v p ≡ 1)
          only v (inl q) = rw q (is_two es p.second eb, o₂)
          only v (inr (inl q)) = rw q (is_two es p.first ea, o₁)
          only v (inr (inr q)) = absurd q
      go true false ea eb = bared_of (λ v o c. one v c (end_cases p v o)) only (step_one blocks p.first m o₁ (is_two es p.first ea))
        where
          one : (v : ℕ) → degree es v ≡ 2 → (p.first ≡ v) ⊎ (p.second ≡ v) → (v ≡ p.first) ⊎ ⊥
          one v c (inl q) = inl (sym q)
          one v c (inr q) = absurd (not_two es p.second eb (rw q c))

          only : (v : ℕ) → (v ≡ p.first) ⊎ ⊥ → (degree es v ≡ 2) × (ends_at v p ≡ 1)
          only v (inl q) = rw q (is_two es p.first ea, o₁)
          only v (inr q) = absurd q
      go false true ea eb = bared_of (λ v o c. one v c (end_cases p v o)) only (step_one blocks p.second m o₂ (is_two es p.second eb))
        where
          one : (v : ℕ) → degree es v ≡ 2 → (p.first ≡ v) ⊎ (p.second ≡ v) → (v ≡ p.second) ⊎ ⊥
          one v c (inr q) = inl (sym q)
          one v c (inl q) = absurd (not_two es p.first ea (rw q c))

          only : (v : ℕ) → (v ≡ p.second) ⊎ ⊥ → (degree es v ≡ 2) × (ends_at v p ≡ 1)
          only v (inl q) = rw q (is_two es p.second eb, o₂)
          only v (inr q) = absurd q
      go false false ea eb = bared_of (λ v o c. none v c (end_cases p v o)) (λ v a. absurd a) (record {
        after = m;
        k = 0;
        taps = no_tap refl refl refl;
        covered = λ v a z. a;
        except = except_none m;
        moves = λ ts. omega arith;
      })
        where
          none : (v : ℕ) → degree es v ≡ 2 → (p.first ≡ v) ⊎ (p.second ≡ v) → ⊥
          none v c (inl q) = not_two es p.first ea (rw q c)
          none v c (inr q) = not_two es p.second eb (rw q c)
