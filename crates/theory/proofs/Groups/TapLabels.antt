-- A tap, for the labels: all of the ring gets a new block. Its vertex x, which loses its label as the edge lands, is given the last of them
-- here, so that the ring is of one block as long as the list of edges is the one before the landing.
use mathlib.Core.Path.{◌≡◌, refl, sym, ap, ◌∙◌, subst}
use mathlib.Core.Logic.{◌≢◌, ◌⊎◌, inl, inr}
use Prim.Native.Nat.{ℕ, suc, ◌+◌, ◌-◌, ◌*◌, ◌≤◌, ◌<◌}
use native.Mathlib.Omega.{arith}
use native.Mathlib.Decide.{ℕ_discrete}
use mathlib.Core.Bool.{true, false}
use mathlib.Core.List.Memᴰ.{cases_cons as mem-cases}
use mathlib.Core.List.Memᴰ.{not-nil as mem-nil}
use mathlib.Core.List.{List, [], ◌∷◌, Memᴰ as Mem}
use lib.ListN.{length, length-map}
use Rattle.model.specs.Graph.{Edge, Pass, after_of, degree}
use Rattle.model.specs.Labels.{Marks, base}
use Rattle.model.proofs.Basics.Booleans.{not_both}
use Rattle.model.proofs.Walks.Degree.{Proper, is_two}
use Rattle.model.proofs.Walks.Turn.{At, some_edge}
use Rattle.model.proofs.Walks.Joins.{across}
use Rattle.model.proofs.Walks.Trail.{Trail, done, pass, Next, next_edge, afters}
use Rattle.model.proofs.Walks.Places.{ith_one, ith_below, Off}
use Rattle.model.proofs.Walks.Tours.{Tour, OnTour, is_x, is_of, end_on, edge_on, tour_distinct, tour_below}
use Rattle.model.proofs.Labels.Following.{label_at, low_at}
use Rattle.theory.proofs.Labels.Taps.{relaid}
use Rattle.theory.proofs.Labels.Relaid.{Who, at_x, at_ith, Relaid, anew, as_ever, relaid_view}
use Rattle.theory.proofs.Labels.WearsAfter.{LongEnough}
use Rattle.theory.proofs.Groups.Shape.{Shape, size, pick, pick_yes, pick_no}
use Rattle.theory.proofs.Groups.Rings.{shut_round, vertex_on}
use Rattle.theory.proofs.Groups.Tap.{tapped, tap_size, tap_courses, tap_successive, few_of_group}
use Rattle.theory.proofs.Groups.Origins.{Origins, Aligned, Stand, gap, offset}
use Rattle.theory.proofs.Groups.Ghosts.{Ghosts}
use Rattle.theory.proofs.Groups.GrownLabels.{path_block, given_in, given_out}

abbrev pub tapped_origins : Origins → (now g x : ℕ) → List Pass → Origins
tapped_origins l now g x path = record {
  block = λ v. pick v x now (path_block now path l.block v);
  owner = λ i. pick i now g (l.owner i);
  origin = l.origin;
  rising = l.rising;
}

same_who : {x : ℕ} {path : List Pass} (v u i : ℕ) → Who x path v i → Who x path u i → v ≡ u
same_who v u i (at_x e f) (at_x e' f') = e ∙ sym e'
same_who v u i (at_x e f) (at_ith s j q) = absurd (omega (arith, ith_below j, f))
same_who v u i (at_ith s j q) (at_x e f) = absurd (omega (arith, ith_below j, f))
same_who v u i (at_ith s j q) (at_ith s' j' q') = sym q ∙ ap (λ (o : Pass). o.at) (ith_one j j') ∙ q'

gap_up : (b i : ℕ) → 1 ≤ b → gap (b - 1 + suc i) b ≡ i
unfolding gap
gap_up b i l = omega arith

base_pos : (k : ℕ) → 1 ≤ base (k + 1)
unfolding base
base_pos k = omega arith

module _ {es : List Edge} (pr : Proper es) {relabellings : ℕ} {m : Marks} {blocks : ℕ} (gh : Ghosts es relabellings m blocks) (lg : LongEnough es m)
    {x d q : ℕ} {path : List Pass} (ro : Tour es x d q path) (ring : gh.shape.is_ring (gh.shape.group d) ≡ true) (k : ℕ) (le : k ≤ length path) where
  open gh use {shape as h, courses as w, origins as l, aligned as lab}

  abbrev pub tap_group : ℕ
  tap_group = gh.shape.group d

  abbrev now : ℕ
  now = blocks + 1

  abbrev t : ℕ
  t = base (blocks + 1) - 1

  abbrev after : Marks
  after = relaid (base (blocks + 1) - 1) x q path m

  abbrev h' : Shape
  h' = tapped h tap_group k

  abbrev l' : Origins
  l' = tapped_origins l now tap_group x path

  shut : h.is_open tap_group ≡ false
  shut = shut_round pr w ro

  -- all edges of the round are in its group
  trail_group : {e v r z : ℕ} {ss : List Pass} → At es v e → Trail es e v ss r z → (c : ℕ) → Mem c (e ∷ afters ss) → h.group c ≡ h.group e
  unfolding afters after_of
  trail_group {e} {v} a done c n = go (mem-cases n)
    where
      go : (c ≡ e) ⊎ Mem c [] → h.group c ≡ h.group e
      go (inl i) = ap h.group i
      go (inr i) = absurd (mem-nil i)
  trail_group {e} {v} a (pass {ss = ss} f y g o) c n = go (mem-cases n) (λ i. trail_group nx.across.at o c i)
    where
      nx : Next es e v f
      nx = next_edge es e v f pr a y g

      go : (c ≡ e) ⊎ Mem c (f ∷ afters ss) → (Mem c (f ∷ afters ss) → h.group c ≡ h.group f) → h.group c ≡ h.group e
      go (inl i) ih = ap h.group i
      go (inr i) ih = ih i ∙ sym (lab.owned v f (is_two es v y) nx.at) ∙ lab.owned v e (is_two es v y) a

  pub round_group : (c : ℕ) → Mem c (d ∷ afters path) → h.group c ≡ h.group d
  round_group c n = trail_group (across es d x pr ro.d_at).at ro.trail c n

  -- the path is shorter than the group
  pub path_short : length path < size h (length es) tap_group
  unfolding afters
  path_short = omega (arith, few_of_group h (length es) tap_group (d ∷ afters path) (tour_distinct pr ro) (tour_below pr ro) round_group, length-map path after_of)

  -- ---- each vertex
  data Seen (v : ℕ) : Type 0 where
    new : (i : ℕ) → i ≤ length path → label_at after v ≡ t + suc i → Who x path v i → OnTour pr ro v → l'.block v ≡ now → Seen v
    old : (OnTour pr ro v → ⊥) → label_at after v ≡ label_at m v → low_at after v ≡ low_at m v → l'.block v ≡ l.block v → Seen v

  on_of : (v i : ℕ) → Who x path v i → OnTour pr ro v
  on_of v i (at_x e f) = is_x e
  on_of v i (at_ith s j e) = is_of (record { index = i; pass_is = s; ith = j; at_is = e })

  block_of : (v i : ℕ) → Who x path v i → l'.block v ≡ now
  block_of v i (at_x e f) = pick_yes v x now _ e
  block_of v i (at_ith s j e) = go (ℕ_discrete v x)
    where
      go : Dec (v ≡ x) → l'.block v ≡ now
      go (yes c) = pick_yes v x now _ c
      go (no c) = pick_no v x now _ c ∙ given_in now path l.block v i s j e

  off_of : (v : ℕ) → v ≢ x → Off path v → OnTour pr ro v → ⊥
  off_of v n o (is_x e) = n e
  off_of v n o (is_of f) = o f.index f.pass_is f.ith f.at_is

  seen : (v e : ℕ) → At es v e → Seen v
  seen v e a = go (relaid_view t x q path m v (lg.long v e a) (omega (arith, lg.long v e a, lg.even)))
    where
      go : Relaid t x path m after v → Seen v
      go (anew i le f who) = new i le f who (on_of v i who) (block_of v i who)
      go (as_ever n o f g) = old (off_of v n o) f g (pick_no v x now _ n ∙ given_out now path l.block v o)

  -- its edges are in the group, and all that have an edge in the group are on it
  on_group : (v e : ℕ) → OnTour pr ro v → At es v e → h.group e ≡ tap_group
  on_group v e o a = round_group e (edge_on pr ro v e o a)

  old_block : (v : ℕ) → degree es v ≡ 2 → l.block v ≢ now
  old_block v c z = omega (arith, z, lab.most v c)

  owned' : (v e : ℕ) → degree es v ≡ 2 → At es v e → l'.owner (l'.block v) ≡ h'.group e
  owned' v e c a = go (seen v e a)
    where
      go : Seen v → l'.owner (l'.block v) ≡ h.group e
      go (new i le f who o b) = rw b (pick_yes now now tap_group _ refl ∙ sym (on_group v e o a))
      go (old n f g b) = rw b (pick_no (l.block v) now tap_group _ (old_block v c) ∙ lab.owned v e c a)

  each_block : (P : ℕ → Type 0) → P now → ((v : ℕ) → degree es v ≡ 2 → P (l.block v)) → (v : ℕ) → degree es v ≡ 2 → P (l'.block v)
  each_block P on off v c = let s = some_edge es v pr c in go (seen v s.0 s.1)
    where
      go : Seen v → P (l'.block v)
      go (new i le f who o b) = rw b on
      go (old n f g b) = rw b (off v c)

  along' : (v u e : ℕ) → degree es v ≡ 2 → degree es u ≡ 2 → At es v e → At es u e → l'.block v ≡ l'.block u
  along' v u e c c' a a' = go (seen v e a) (seen u e a')
    where
      go : Seen v → Seen u → l'.block v ≡ l'.block u
      go (new i le f who o b) (new i' le' f' who' o' b') = b ∙ sym b'
      go (new i le f who o b) (old n f' g' b') = absurd (n (end_on pr ro e u (edge_on pr ro v e o a) a'))
      go (old n f g b) (new i' le' f' who' o' b') = absurd (n (end_on pr ro e v (edge_on pr ro u e o' a') a))
      go (old n f g b) (old n' f' g' b') = b ∙ lab.along v u e c c' a a' ∙ sym b'

  stand_old : (v c : ℕ) → label_at after v ≡ label_at m v → low_at after v ≡ low_at m v → l'.block v ≡ l.block v → Stand es m h l v c → Stand es after h' l' v c
  unfolding tap_successive
  stand_old v c f g b st = record {
    between = tap_successive tap_group k v c st.between;
    first = rw b st.first;
    last = rw (b, tap_size h tap_group k (length es) c) st.last;
    fits = rw (b, f) st.fits;
    low_is = rw (b, g) st.low_is;
  }

  stands' : (v e : ℕ) → degree es v ≡ 2 → At es v e → h'.is_open (h'.group e) ≡ true → Stand es after h' l' v (h'.group e)
  stands' v e c a t = go (seen v e a)
    where
      go : Seen v → Stand es after h' l' v (h.group e)
      go (new i le f who o b) = absurd (not_both _ t (rw (on_group v e o a) shut))
      go (old n f g b) = stand_old v (h.group e) f g b (lab.stands v e c a t)

  -- a vertex of the group that is not on the round is none
  none_old : (v e : ℕ) → At es v e → h.group e ≡ tap_group → (OnTour pr ro v → ⊥) → ⊥
  none_old v e a q n = n (vertex_on pr w ro v e a q)

  single' : (v u e c : ℕ) → degree es v ≡ 2 → degree es u ≡ 2 → At es v e → At es u c → h'.is_open (h'.group e) ≡ false → h'.group c ≡ h'.group e
      → l'.block v ≡ l'.block u → label_at after v ≡ label_at after u → v ≡ u
  single' v u e c cv cu av au o q bl tg = go (seen v e av) (seen u c au)
    where
      go : Seen v → Seen u → v ≡ u
      go (new i le f who on b) (new i' le' f' who' on' b') =
          let z : i' ≡ i = omega (arith, f, f', tg) in
          same_who v u i who (subst (λ (o : ℕ). Who x path u o) z who')
      go (new i le f who on b) (old n f' g' b') = absurd (none_old u c au (q ∙ on_group v e on av) n)
      go (old n f g b) (new i' le' f' who' on' b') = absurd (none_old v e av (sym q ∙ on_group u c on' au) n)
      go (old n f g b) (old n' f' g' b') = lab.single v u e c cv cu av au o q (sym b ∙ bl ∙ b') (sym f ∙ tg ∙ f')

  near : (v i : ℕ) → i ≤ length path → label_at after v ≡ t + suc i → l'.block v ≡ now → offset after l' v + 1 ≤ size h (length es) tap_group
  near v i le f b = rw (b, f) (omega (arith, gap_up (base (blocks + 1)) i (base_pos blocks), path_short))

  offset_old : (v : ℕ) → label_at after v ≡ label_at m v → l'.block v ≡ l.block v → offset after l' v ≡ offset m l v
  offset_old v f b = rw (f, b)

  within' : (v e : ℕ) → degree es v ≡ 2 → At es v e → h'.is_open (h'.group e) ≡ false → offset after l' v + 1 ≤ 2 * size h' (length es) (h'.group e)
  within' v e c a o = rw (tap_size h tap_group k (length es) (h.group e)) (go (seen v e a))
    where
      go : Seen v → offset after l' v + 1 ≤ 2 * size h (length es) (h.group e)
      go (new i le f who on b) = omega (arith, near v i le f b, ap (size h (length es)) (on_group v e on a))
      go (old n f g b) = omega (arith, offset_old v f b, lab.within v e c a o)

  within_two' : (v u e c : ℕ) → degree es v ≡ 2 → degree es u ≡ 2 → At es v e → At es u c → h'.is_open (h'.group e) ≡ false → h'.group c ≡ h'.group e
      → l'.block v ≢ l'.block u → offset after l' v + offset after l' u + 1 ≤ 2 * size h' (length es) (h'.group e)
  within_two' v u e c cv cu av au o q bl = rw (tap_size h tap_group k (length es) (h.group e)) (go (seen v e av) (seen u c au))
    where
      go : Seen v → Seen u → offset after l' v + offset after l' u + 1 ≤ 2 * size h (length es) (h.group e)
      go (new i le f who on b) (new i' le' f' who' on' b') = absurd (bl (b ∙ sym b'))
      go (new i le f who on b) (old n f' g' b') = absurd (none_old u c au (q ∙ on_group v e on av) n)
      go (old n f g b) (new i' le' f' who' on' b') = absurd (none_old v e av (sym q ∙ on_group u c on' au) n)
      go (old n f g b) (old n' f' g' b') =
          omega (arith, offset_old v f b, offset_old u f' b', lab.within_two v u e c cv cu av au o q (λ z. bl (b ∙ z ∙ sym b')))

  pub tap_aligned : Aligned es after now h' l'
  tap_aligned = record {
    owned = owned';
    least = each_block (λ i. 1 ≤ i) (omega arith) lab.least;
    most = each_block (λ i. i ≤ now) (omega arith) (λ v c. omega (arith, lab.most v c));
    along = along';
    stands = stands';
    single = single';
    within = within';
    within_two = within_two';
  }

  -- after a tap there is a ghost state, with the ring in a block of its own
  abbrev pub tap_ghosts : Ghosts es (relabellings + k) (relaid (base (blocks + 1) - 1) x q path m) (blocks + 1)
  tap_ghosts = record {
    shape = h';
    courses = tap_courses w tap_group k (w.below d ro.d_at.inside) ring (omega (arith, path_short));
    origins = l';
    aligned = tap_aligned;
  }
