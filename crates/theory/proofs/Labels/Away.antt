-- What taps leave of `Sided`: away from the ends of the new edge it holds in the list with it. Where a ring was tapped the labels rise, and the
-- last edge of a ring that was not is still one.
use mathlib.Core.Path.{◌≡◌, refl, sym, ◌∙◌, subst}
use mathlib.Core.Logic.{◌≢◌, ◌⊎◌, inl, inr}
use Prim.Native.Nat.{ℕ, suc, ◌+◌, ◌<◌}
use native.Mathlib.Omega.{arith}
use mathlib.Core.Bool.{true, true≢false}
use mathlib.Core.List.{List, [], ◌∷◌, ◌++◌, Memᴰ as Mem}
use lib.ListN.{length, length-set}
use Rattle.model.specs.Graph.{Edge, Pass, chain_of, degree, edge_at, ends_at, far, is_regular, lower_numbered, edge_on_ring}
use Rattle.model.specs.Labels.{Marks, mark, vertex_on_ring}
use Rattle.model.proofs.Walks.Degree.{Proper, is_two, no_end}
use Rattle.model.proofs.Walks.Turn.{At, some_edge}
use Rattle.model.proofs.Walks.Joins.{Across, across}
use Rattle.model.proofs.Walks.Places.{InPath, Off}
use Rattle.model.proofs.Walks.Once.{pair}
use Rattle.model.proofs.Walks.Tours.{OnTour, Tour, edge_on, end_on, is_of, is_x, tour_follow, tour_once}
use Rattle.model.proofs.Walks.Loops.{Leads, loop_both, loop_leads, loop_regular, loop_ring, loop_inner}
use Rattle.model.proofs.Chains.Partition.{first_at, own_round, ring_inner}
use Rattle.model.proofs.Chains.Own.{lower_at}
use Rattle.model.proofs.Chains.StillRing.{same_ring, still_ring}
use Rattle.model.proofs.Labels.Following.{following, following_long, low_at, low_of}
use Rattle.theory.proofs.Labels.Taps.{Taps, Toured, no_tap, one_tap, relaid, two_taps}
use Rattle.theory.proofs.Labels.Rise.{Agrees, Beside, IsSeam, Pairs, Rise, Sided, Step, agrees_then, beside, exact, from_start, from_stop, low_as, mark_agrees, off_path, path_or, rise_as, risen, rises, seam}

module _ (es : List Edge) (p : Edge) (pr : Proper es) (d : p.first ≢ p.second) where
  abbrev new : List Edge
  new = es ++ (p ∷ [])

  -- away from the ends of the new edge `Sided` holds in the list with it
  pub record Away (m : Marks) : Type 0 where
    pub low_at_lem : (v : ℕ) → degree es v ≡ 2 → ends_at v p ≡ 0 → At es v (low_at m v)
    pub steps : (v w e : ℕ) → Pairs es v w e → ends_at v p ≡ 0 → ends_at w p ≡ 0 → Step (es ++ (p ∷ [])) m v w e

  not_end : {v x : ℕ} → ends_at v p ≡ 0 → ends_at x p ≡ 1 → v ≢ x
  not_end {v} {x} a o q = let z : ends_at x p ≡ 0 = rw q at a in omega arith

  -- T says where taps have been: the labels rise there, elsewhere they are as they were
  record Partly (m : Marks) (T : ℕ → Type 0) (m₁ : Marks) : Type 0 where
    lows : (v : ℕ) → degree es v ≡ 2 → ends_at v p ≡ 0 → At es v (low_at m₁ v)
    labels : (v w e : ℕ) → Pairs es v w e → ends_at v p ≡ 0 → ends_at w p ≡ 0 → Rise m₁ v w e ⊎ ((T v → ⊥) × (Agrees m m₁ v × Agrees m m₁ w))
    room_labels : (v e : ℕ) → At es v e → v < length m₁.labels
    room_lows : (v e : ℕ) → At es v e → v < length m₁.lows

  same : (m : Marks) (v : ℕ) → Agrees m m v
  same m v = record { label_same = refl; low_same = refl }

  -- one tap more
  module _ {x c q : ℕ} {path : List Pass} (o : ends_at x p ≡ 1) (t : Tour es x c q path) (label : ℕ) where
    cross : Across es c x
    cross = across es c x pr t.d_at

    module _ {m m₁ : Marks} {T : ℕ → Type 0} (old : Partly m T m₁) where
      abbrev laid : Marks
      laid = following true label path m₁

      abbrev m₂ : Marks
      m₂ = relaid label x q path m₁

      -- a vertex that is not x wears what the path gave it
      as_laid : (v : ℕ) → v ≢ x → Agrees laid m₂ v
      unfolding relaid
      as_laid v n = mark_agrees x _ q _ v n

      off_tour : (v e : ℕ) → At es v e → v ≢ x → Off path v → Agrees m₁ m₂ v
      off_tour v e a n f =
          agrees_then (off_path es pr cross.at t.trail (tour_once pr t) true label m₁ old.room_labels old.room_lows v e a f) (as_laid v n)

      low_more : (v : ℕ) → degree es v ≡ 2 → ends_at v p ≡ 0 → InPath path v ⊎ Off path v → At es v (low_at m₂ v)
      unfolding low_of
      low_more v two z (inl i) =
          let r = pair es pr cross.at t.trail i.index i.pass_is i.ith in
          let k = exact es pr cross.at t.trail (tour_once pr t) true label m₁ old.room_labels old.room_lows i.index i.pass_is v i.ith i.at_is in
          rw ((as_laid v (not_end z o)).low_same, k.low_is) (subst (λ (y : ℕ). At es y i.pass_is.before) i.at_is r.before_at)
      low_more v two z (inr f) =
          let (e, a) = some_edge es v pr two in
          rw (off_tour v e a (not_end z o) f).low_same (old.lows v two z)

      labels_more : (v w e : ℕ) → Pairs es v w e → ends_at v p ≡ 0 → ends_at w p ≡ 0
          → Rise m₂ v w e ⊎ ((T v ⊎ ((v ≡ x) ⊎ InPath path v) → ⊥) × (Agrees m m₂ v × Agrees m m₂ w))
      labels_more v w e k zv zw = go (path_or path v) (path_or path w) (old.labels v w e k zv zw)
        where
          nv : v ≢ x
          nv = not_end zv o

          nw : w ≢ x
          nw = not_end zw o

          on : Beside laid path v w e (λ s. (w ≡ far es c (far es c x)) × (e ≡ c)) (w ≡ x) → Rise m₂ v w e
          on (risen r) = rise_as (as_laid v nv) (as_laid w nw) r
          on (from_start s j sv se g) = absurd (nw (g.0 ∙ cross.again))
          on (from_stop g) = absurd (nw g)

          off_both : Off path v → OnTour pr t w → ⊥
          off_both f i = here_not (end_on pr t e v (edge_on pr t w e i k.second_at) k.first_at)
            where
              here_not : OnTour pr t v → ⊥
              here_not (is_x q) = nv q
              here_not (is_of j) = f j.index j.pass_is j.ith j.at_is

          tell : Off path v → Off path w → Rise m₁ v w e ⊎ ((T v → ⊥) × (Agrees m m₁ v × Agrees m m₁ w))
              → Rise m₂ v w e ⊎ ((T v ⊎ ((v ≡ x) ⊎ InPath path v) → ⊥) × (Agrees m m₂ v × Agrees m m₂ w))
          tell f g (inl r) = inl (rise_as (off_tour v e k.first_at nv f) (off_tour w e k.second_at nw g) r)
          tell f g (inr (n, (a, b))) =
              inr (none, (agrees_then a (off_tour v e k.first_at nv f), agrees_then b (off_tour w e k.second_at nw g)))
            where
              none : T v ⊎ ((v ≡ x) ⊎ InPath path v) → ⊥
              none (inl i) = n i
              none (inr (inl i)) = nv i
              none (inr (inr i)) = f i.index i.pass_is i.ith i.at_is

          go : InPath path v ⊎ Off path v → InPath path w ⊎ Off path w → Rise m₁ v w e ⊎ ((T v → ⊥) × (Agrees m m₁ v × Agrees m m₁ w))
              → Rise m₂ v w e ⊎ ((T v ⊎ ((v ≡ x) ⊎ InPath path v) → ⊥) × (Agrees m m₂ v × Agrees m m₂ w))
          go (inl i) h l =
              inl (on (beside es pr cross.at t.trail (tour_once pr t) true label m₁ old.room_labels old.room_lows i.index v w e i.pass_is i.ith i.at_is
              k.first_at k.second_at k.differ (λ z. absurd (true≢false z)) (λ z. absurd (true≢false z))))
          go (inr f) (inl i) l = absurd (off_both f (is_of i))
          go (inr f) (inr g) l = tell f g l

      partly_more : Partly m (λ v. T v ⊎ ((v ≡ x) ⊎ InPath path v)) (relaid label x q path m₁)
      unfolding relaid mark
      partly_more = record {
        lows = λ v two z. low_more v two z (path_or path v);
        labels = labels_more;
        room_labels = λ v e a. omega (arith, old.room_labels v e a, length-set laid.labels x (label + suc (length path)), (following_long true label path m₁).labels_long);
        room_lows = λ v e a. omega (arith, old.room_lows v e a, length-set laid.lows x q, (following_long true label path m₁).lows_long);
      }

  -- ---- all taps

  partly_none : (m : Marks) → Sided es m → ((v e : ℕ) → At es v e → v < length m.labels) → ((v e : ℕ) → At es v e → v < length m.lows) → Partly m (λ v. ⊥) m
  partly_none m s ll lw =
      record { lows = λ v two z. s.low_at_lem v two; labels = λ v w e k a b. inr (λ x. x, (same m v, same m w)); room_labels = ll; room_lows = lw }

  partly_in : {m m₁ : Marks} {T K : ℕ → Type 0} → ((v : ℕ) → K v → T v) → Partly m T m₁ → Partly m K m₁
  partly_in {m} {m₁} {T} {K} f s = record {
    lows = s.lows;
    labels = λ v w e k a b. go v w e (s.labels v w e k a b);
    room_labels = s.room_labels;
    room_lows = s.room_lows;
  }
    where
      go : (v w e : ℕ) → Rise m₁ v w e ⊎ ((T v → ⊥) × (Agrees m m₁ v × Agrees m m₁ w)) → Rise m₁ v w e ⊎ ((K v → ⊥) × (Agrees m m₁ v × Agrees m m₁ w))
      go v w e (inl r) = inl r
      go v w e (inr (n, a)) = inr (λ i. n (f v i), a)

  module _ (m : Marks) (s : Sided es m) (ll : (v e : ℕ) → At es v e → v < length m.labels) (lw : (v e : ℕ) → At es v e → v < length m.lows) where
    partly : {blocks blocks₁ k : ℕ} {m₁ : Marks} (t : Taps es p blocks m blocks₁ m₁ k) → Partly m (Toured t) m₁
    partly (no_tap b n z) = subst (λ (i : Marks). Partly m (λ v. ⊥) i) (sym n) (partly_none m s ll lw)
    partly (one_tap x c q path o t b n z) =
        subst (λ (i : Marks). Partly m (λ v. (v ≡ x) ⊎ InPath path v) i) (sym n) (partly_in (λ v i. inr i) (partly_more o t _ (partly_none m s ll lw)))
    partly (two_taps x c q path y c' q' path' o o' xy f t t' b n z) =
        subst (λ (i : Marks). Partly m (λ v. ((v ≡ x) ⊎ InPath path v) ⊎ ((v ≡ y) ⊎ InPath path' v)) i) (sym n)
        (partly_in (λ v i. two_of v i) (partly_more o' t' _ (partly_more o t _ (partly_none m s ll lw))))
      where
        two_of : (v : ℕ) → ((v ≡ x) ⊎ InPath path v) ⊎ ((v ≡ y) ⊎ InPath path' v) → (⊥ ⊎ ((v ≡ x) ⊎ InPath path v)) ⊎ ((v ≡ y) ⊎ InPath path' v)
        two_of v (inl i) = inl (inr i)
        two_of v (inr i) = inr i

    -- a ring that has a vertex on a tour lies on it
    on_tour : {x c q : ℕ} {path : List Pass} (t : Tour es x c q path) (e u v : ℕ) → e < length es → edge_on_ring es e ≡ true → Mem u (chain_of es e).inner → At es v e → OnTour pr t u → OnTour pr t v
    on_tour t e u v h r n b i =
        let a : ℕ = (edge_at es e).first in
        let at : At es a e = first_at es pr e h in
        let k = own_round es pr e h r in
        let n' : Mem u (loop_inner es e a) = subst (λ (l : List ℕ). Mem u l) (ring_inner es pr e r) n in
        let j : ℕ = lower_numbered es u in
        let bj : At es u j = lower_at es pr u (loop_regular es pr e a at k u n') in
        let l : Leads es pr e a at k j = loop_leads es pr e a at k j (loop_both es pr e a at k u j n' bj) in
        let z = tour_follow pr t (edge_on pr t u j i bj) l.at l.leads in
        end_on pr t e v (edge_on pr t _ e z (across es e a pr at).at) b

    toured_on : {blocks blocks₁ k : ℕ} {m₁ : Marks} (t : Taps es p blocks m blocks₁ m₁ k) (e u v : ℕ) → e < length es → edge_on_ring es e ≡ true → Mem u (chain_of es e).inner → At es v e → Toured t u → Toured t v
    toured_on (no_tap b n z) e u v h r k a i = i
    toured_on (one_tap x c q path o t b n z) e u v h r k a i = out (on_tour t e u v h r k a (into i))
      where
        into : (u ≡ x) ⊎ InPath path u → OnTour pr t u
        into (inl j) = is_x j
        into (inr j) = is_of j

        out : OnTour pr t v → (v ≡ x) ⊎ InPath path v
        out (is_x j) = inl j
        out (is_of j) = inr j
    toured_on (two_taps x c q path y c' q' path' o o' xy f t t' b n z) e u v h r k a i = go i
      where
        into : (u ≡ x) ⊎ InPath path u → OnTour pr t u
        into (inl j) = is_x j
        into (inr j) = is_of j

        into' : (u ≡ y) ⊎ InPath path' u → OnTour pr t' u
        into' (inl j) = is_x j
        into' (inr j) = is_of j

        out : OnTour pr t v → (v ≡ x) ⊎ InPath path v
        out (is_x j) = inl j
        out (is_of j) = inr j

        out' : OnTour pr t' v → (v ≡ y) ⊎ InPath path' v
        out' (is_x j) = inl j
        out' (is_of j) = inr j

        go : ((u ≡ x) ⊎ InPath path u) ⊎ ((u ≡ y) ⊎ InPath path' u) → ((v ≡ x) ⊎ InPath path v) ⊎ ((v ≡ y) ⊎ InPath path' v)
        go (inl j) = inl (out (on_tour t e u v h r k a (into j)))
        go (inr j) = inr (out' (on_tour t' e u v h r k a (into' j)))

    -- after all taps `Sided` holds away from the ends of the new edge
    pub away : {blocks blocks₁ k : ℕ} {m₁ : Marks} (t : Taps es p blocks m blocks₁ m₁ k) → ((v : ℕ) → ends_at v p ≡ 1 → degree es v ≡ 2 → vertex_on_ring es v ≡ true → Toured t v) → Away m₁
    unfolding vertex_on_ring
    away {m₁ = m₁} t covered = record { low_at_lem = r.lows; steps = λ v w e k a b. go v w e k (r.labels v w e k a b) (s.steps v w e k) }
      where
        r : Partly m (Toured t) m₁
        r = partly t

        go : (v w e : ℕ) → Pairs es v w e → Rise m₁ v w e ⊎ ((Toured t v → ⊥) × (Agrees m m₁ v × Agrees m m₁ w)) → Step es m v w e → Step new m₁ v w e
        go v w e k (inl i) j = rises i
        go v w e k (inr (n, (a, b))) (rises i) = rises (rise_as a b i)
        go v w e k (inr (n, (a, b))) (seam g l) = seam still (low_as a b l)
          where
            h : e < length es
            h = k.first_at.inside

            spared : (u : ℕ) → Mem u (chain_of es e).inner → ends_at u p ≡ 0
            spared u i = no_end p u d (λ o. n (toured_on t e u v h g.on_ring i k.first_at (covered u o two ring)))
              where
                z : ℕ
                z = (edge_at es e).first

                i' : Mem u (loop_inner es e z)
                i' = subst (λ (l : List ℕ). Mem u l) (ring_inner es pr e g.on_ring) i

                reg : is_regular es u ≡ true
                reg = loop_regular es pr e z (first_at es pr e h) (own_round es pr e h g.on_ring) u i'

                two : degree es u ≡ 2
                two = is_two es u reg

                ring : edge_on_ring es (lower_numbered es u) ≡ true
                ring = loop_ring es pr e z (first_at es pr e h) (own_round es pr e h g.on_ring) (lower_numbered es u)
                    (loop_both es pr e z (first_at es pr e h) (own_round es pr e h g.on_ring) u (lower_numbered es u) i' (lower_at es pr u reg))

            still : IsSeam new e
            still = record { on_ring = still_ring es p pr d e h g.on_ring spared; is_last = λ j i. g.is_last j (same_ring es p pr d e h g.on_ring spared j i) }
