-- One more edge keeps `Sided`: where no path is labelled, and along one that is, for an extension and for a merge.
use mathlib.Core.Path.{◌≡◌, sym, ap, ◌∙◌, subst}
use mathlib.Core.Logic.{◌≢◌, ◌⊎◌, inl, inr}
use Prim.Native.Nat.{ℕ, ◌≤◌, ◌<◌}
use native.Mathlib.Omega.{arith}
use mathlib.Core.Bool.{Bool, true, false}
use mathlib.Core.List.{List, [], ◌∷◌, ◌++◌}
use lib.ListN.{length}
use Rattle.model.specs.Graph.{Edge, Pass, degree, ends_at, far}
use Rattle.model.specs.Labels.{Labelling, Marks}
use Rattle.model.proofs.Walks.Degree.{Proper, degree_snoc, no_end, not_regular, proper_snoc}
use Rattle.model.proofs.Walks.Turn.{At, some_edge}
use Rattle.model.proofs.Walks.Snoc.{far_old}
use Rattle.model.proofs.Walks.NewEdge.{at_new, old_edge}
use Rattle.model.proofs.Walks.Places.{InPath, Ith, Off, Once, ith_one}
use Rattle.model.proofs.Walks.Once.{at_once, pair}
use Rattle.model.proofs.Labels.Following.{following, ith_label, label_at, low_at, low_of}
use Rattle.theory.proofs.Labels.Splits.{Bare}
use Rattle.theory.proofs.Labels.Laid.{Laid, Near, near, none_near}
use Rattle.theory.proofs.Labels.Closed.{Direction}
use Rattle.theory.proofs.Labels.WearsAfter.{LongEnough}
use Rattle.theory.proofs.Labels.Rise.{Agrees, Beside, Exact, Pairs, Rise, Sided, Step, agrees_then, beside, down_to, exact, from_start, from_stop, off_path, pairs_back, path_or, rise_back, risen, rises, step_as, step_back, up_to}
use Rattle.theory.proofs.Labels.Away.{Away}

-- a vertex that follows its neighbour's label
pub beside_neighbour : (m : Marks) (up : Bool) (label v w e : ℕ) (s : Pass) → label_at m v ≡ ith_label up label 0 → low_at m v ≡ low_of up s → label_at m w ≡ label
    → Direction up (low_at m w) e → 1 ≤ label_at m v → s.before ≢ s.after → s.before ≡ e → Rise m v w e
unfolding ith_label low_of
beside_neighbour m true label v w e s tv lv tw k pos ds se = down_to (lv ∙ se) k (omega (arith, tv, tw))
beside_neighbour m false label v w e s tv lv tw k pos ds se = up_to (λ q. ds (se ∙ sym q ∙ lv)) k (omega (arith, tv, tw, pos))

-- the low edge that a pass gets lies at its vertex
pub low_of_at : (es : List Edge) (v : ℕ) (up : Bool) (s : Pass) → At es v s.before → At es v s.after → At es v (low_of up s)
unfolding low_of
low_of_at es v true s a b = a
low_of_at es v false s a b = b

module _ (es : List Edge) (p : Edge) (pr : Proper es) (d : p.first ≢ p.second) where
  abbrev new : List Edge
  new = es ++ (p ∷ [])

  proper_new : Proper new
  proper_new = proper_snoc es p pr d

  -- what was bared wears elsewhere what it wore
  bare_agrees : {m m' : Marks} → Bare es p m m' → (v : ℕ) → ends_at v p ≡ 0 → Agrees m m' v
  unfolding label_at low_at
  bare_agrees b v z = record { label_same = b.label_kept v (inr z); low_same = b.low_kept v (inr z) }

  -- a vertex that the new edge does not meet was regular if it is
  pub two_old : (v : ℕ) → degree (es ++ (p ∷ [])) v ≡ 2 → ends_at v p ≡ 0 → degree es v ≡ 2
  two_old v c z = omega (arith, degree_snoc es p v)

  -- neighbours that the new edge does not meet were neighbours
  pub pairs_old : {v w e : ℕ} → Pairs (es ++ (p ∷ [])) v w e → ends_at v p ≡ 0 → ends_at w p ≡ 0 → Pairs es v w e
  pairs_old {v} {w} {e} q a b =
      record {
        first_two = two_old v q.first_two a;
        second_two = two_old w q.second_two b;
        first_at = old_edge es p v e a q.first_at;
        second_at = old_edge es p w e b q.second_at;
        differ = q.differ;
      }

  -- no path: no end is regular
  pub sided_fresh : {m m' : Marks} → Away es p pr d m → Bare es p m m' → ((v : ℕ) → ends_at v p ≡ 1 → degree (es ++ (p ∷ [])) v ≢ 2) → Sided (es ++ (p ∷ [])) m'
  sided_fresh {m} {m'} s b n = record {
    low_at_lem = λ v c. rw (bare_agrees b v (off v c)).low_same (at_new es p (s.low_at_lem v (two_old v c (off v c)) (off v c)));
    steps = λ v w e q. step_as (bare_agrees b v (off v q.first_two)) (bare_agrees b w (off w q.second_two))
        (s.steps v w e (pairs_old q (off v q.first_two) (off w q.second_two)) (off v q.first_two) (off w q.second_two));
  }
    where
      off : (v : ℕ) → degree new v ≡ 2 → ends_at v p ≡ 0
      off v c = no_end p v d (λ o. n v o c)

  -- one path
  module _ {blocks : ℕ} {m : Marks} (s : Away es p pr d m) (lg : LongEnough (es ++ (p ∷ [])) m) {res : Labelling} {x y e₀ : ℕ} {path : List Pass}
      (la : Laid es p blocks m res x y e₀ path) (pos : (v : ℕ) → degree (es ++ (p ∷ [])) v ≡ 2 → 1 ≤ label_at res.marks v) where
    abbrev after : Marks
    after = following la.up la.label path la.m'

    e_at : At new x e₀
    e_at = at_new es p la.e_at

    once : Once path
    once = at_once new proper_new e_at la.trail (not_regular new la.to la.stops)

    ll : (v e : ℕ) → At new v e → v < length la.m'.labels
    ll v e a = omega (arith, lg.long v e a, la.bare.labels_long)

    lw : (v e : ℕ) → At new v e → v < length la.m'.lows
    lw v e a = omega (arith, lg.long v e a, lg.even, la.bare.lows_long)

    pos' : (v : ℕ) → degree new v ≡ 2 → 1 ≤ label_at after v
    pos' v c = subst (λ (k : Marks). 1 ≤ label_at k v) la.marks_is (pos v c)

    off_end : (v : ℕ) → degree new v ≡ 2 → Off path v → ends_at v p ≡ 0
    off_end v c f = no_end p v d (λ o. let i = la.has v o c in f i.index i.pass_is i.ith i.at_is)

    off_agrees : (v e : ℕ) → At new v e → degree new v ≡ 2 → Off path v → Agrees m after v
    off_agrees v e a c f =
        agrees_then (bare_agrees la.bare v (off_end v c f)) (off_path new proper_new e_at la.trail once la.up la.label la.m' ll lw v e a f)

    ex : (i : ℕ) (z : Pass) (v : ℕ) → Ith z i path → z.at ≡ v → Exact new proper_new e_at la.trail once la.up la.label la.m' ll lw i z v
    ex = exact new proper_new e_at la.trail once la.up la.label la.m' ll lw

    next_to : (i v w e : ℕ) (z : Pass) → Ith z i path → z.at ≡ v → Pairs new v w e → Beside after path v w e (λ t. (w ≡ far new e₀ x) × (e ≡ e₀)) (w ≡ la.to)
    next_to i v w e z j zv q =
        beside new proper_new e_at la.trail once la.up la.label la.m' ll lw i v w e z j zv q.first_at q.second_at q.differ
        (λ k. pos' v q.first_two) (λ k. pos' w q.second_two)

    -- the first of the path, beside its neighbour w off the path
    start : (v w e : ℕ) (z : Pass) → Ith z 0 path → z.at ≡ v → z.before ≡ e → Pairs new v w e → w ≡ far new e₀ x → e ≡ e₀ → Off path w → Rise after v w e
    unfolding label_at low_at
    start v w e z j zv zb q w_is e_is f = go la.by
      where
        w_far : w ≡ far es e₀ x
        w_far = w_is ∙ far_old es p e₀ x la.e_at.inside

        ag : Agrees m after w
        ag = off_agrees w e q.second_at q.second_two f

        go : Near es p (far es e₀ x) blocks e₀ m la.up la.label res.blocks → Rise after v w e
        go (none_near c u t b) = absurd (c (rw w_far at q.second_two))
        go (near c n t b dir) =
            beside_neighbour after la.up la.label v w e z (ex 0 z v j zv).label_is (ex 0 z v j zv).low_is
            (ag.label_same ∙ ap (λ (i : ℕ). label_at m i) w_far ∙ sym t) (rw (ag.low_same, w_far, e_is) dir) (pos' v q.first_two)
            (pair new proper_new e_at la.trail 0 z j).differ zb

    from_path : (i v w e : ℕ) (z : Pass) → Ith z i path → z.at ≡ v → Pairs new v w e → Rise after v w e
    from_path i v w e z j zv q = go (next_to i v w e z j zv q)
      where
        -- the neighbour is on the path too
        back : (k : ℕ) (t : Pass) → Ith t k path → t.at ≡ w → (a : Pass) → Ith a 0 path → a.at ≡ v → Rise after v w e
        back k t l tw a ja av = cases (next_to k w v e t l tw (pairs_back q))
          where
            cases : Beside after path w v e (λ t. (v ≡ far new e₀ x) × (e ≡ e₀)) (v ≡ la.to) → Rise after v w e
            cases (risen r) = rise_back after w v e r
            cases (from_start b jb bw bb g) = absurd (q.differ (sym av ∙ ap (λ (c : Pass). c.at) (ith_one ja jb) ∙ bw))
            cases (from_stop g) = absurd (la.stops (rw g at q.first_two))

        at_start : (a : Pass) → Ith a 0 path → a.at ≡ v → a.before ≡ e → w ≡ far new e₀ x → e ≡ e₀ → InPath path w ⊎ Off path w → Rise after v w e
        at_start a ja av ab w_is e_is (inl k) = back k.index k.pass_is k.ith k.at_is a ja av
        at_start a ja av ab w_is e_is (inr f) = start v w e a ja av ab q w_is e_is f

        go : Beside after path v w e (λ t. (w ≡ far new e₀ x) × (e ≡ e₀)) (w ≡ la.to) → Rise after v w e
        go (risen r) = r
        go (from_start a ja av ab g) = at_start a ja av ab g.0 g.1 (path_or path w)
        go (from_stop g) = absurd (la.stops (rw g at q.second_two))

    steps_after : (v w e : ℕ) → Pairs new v w e → InPath path v ⊎ Off path v → InPath path w ⊎ Off path w → Step new after v w e
    steps_after v w e q (inl i) k = rises (from_path i.index v w e i.pass_is i.ith i.at_is q)
    steps_after v w e q (inr g) (inl i) = step_back (rises (from_path i.index w v e i.pass_is i.ith i.at_is (pairs_back q)))
    steps_after v w e q (inr g) (inr h) =
        let a = off_end v q.first_two g in
        let b = off_end w q.second_two h in
        step_as (off_agrees v e q.first_at q.first_two g) (off_agrees w e q.second_at q.second_two h) (s.steps v w e (pairs_old q a b) a b)

    low_after : (v : ℕ) → degree new v ≡ 2 → InPath path v ⊎ Off path v → At new v (low_at after v)
    low_after v c (inl i) =
        let r = pair new proper_new e_at la.trail i.index i.pass_is i.ith in
        rw (ex i.index i.pass_is v i.ith i.at_is).low_is
        (subst (λ (z : ℕ). At new z (low_of la.up i.pass_is)) i.at_is (low_of_at new i.pass_is.at la.up i.pass_is r.before_at r.after_at))
    low_after v c (inr f) =
        let (e, a) = some_edge new v proper_new c in
        let z = off_end v c f in
        rw (off_agrees v e a c f).low_same (at_new es p (s.low_at_lem v (two_old v c z) z))

    -- one more edge that labels a path keeps `Sided`
    pub sided_laid : Sided (es ++ (p ∷ [])) res.marks
    sided_laid = subst (λ (k : Marks). Sided new k) (sym la.marks_is) (record {
      low_at_lem = λ v c. low_after v c (path_or path v);
      steps = λ v w e q. steps_after v w e q (path_or path v) (path_or path w);
    })
