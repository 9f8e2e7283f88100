-- Closed groups without credit stay cut: before an edge lands, those that are cut then; and after it has landed.
use mathlib.Core.Path.{◌≡◌, refl, sym, ◌∙◌}
use mathlib.Core.Logic.{◌≢◌}
use Prim.Native.Nat.{ℕ, ◌<◌}
use native.Mathlib.Omega.{arith}
use native.Mathlib.Decide.{ℕ_discrete}
use mathlib.Core.Bool.{false}
use mathlib.Core.List.{List, [], ◌∷◌, ◌++◌}
use lib.ListN.{length}
use Rattle.model.specs.Graph.{Edge, degree, ends_at}
use Rattle.model.proofs.Basics.Booleans.{not_both}
use Rattle.model.proofs.Walks.Degree.{degree_snoc}
use Rattle.model.proofs.Walks.Turn.{At}
use Rattle.model.proofs.Walks.NewEdge.{at_degree, at_new, Which, is_new, is_old, which}
use Rattle.theory.proofs.Groups.Shape.{Shape, pick_no, Courses}
use Rattle.theory.proofs.Groups.Rings.{Cuts, CutIn}
use Rattle.theory.proofs.Groups.Ghosts.{Alike}
use Rattle.theory.proofs.Groups.Tap.{tapped}
use Rattle.theory.proofs.Groups.Grown.{Growth, grown_to, seen_new, seen_y, seen_o, open_gx, open_o, ring_gx, ring_o}

-- group g has a vertex that is singular with the edge p
pub record SoonCut (es : List Edge) (p : Edge) (h : Shape) (g : ℕ) : Type 0 where
  pub vertex : ℕ
  pub edge : ℕ
  pub at : At es vertex edge
  pub group_is : h.group edge ≡ g
  pub cut : degree (es ++ (p ∷ [])) vertex ≢ 2

-- every closed group without credit is cut once p has landed
abbrev pub SoonCuts : List Edge → Edge → Shape → Type 0
SoonCuts es p h = (e : ℕ) → e < length es → h.is_open (h.group e) ≡ false → h.is_ring (h.group e) ≡ false → SoonCut es p h (h.group e)

-- a vertex of a closed group is no leaf, so it stays singular
pub cuts_soon : (es : List Edge) (p : Edge) {relabellings : ℕ} {h : Shape} → Courses es relabellings h → Cuts es h → SoonCuts es p h
cuts_soon es p {h = h} w cuts e l o r =
    let k : CutIn es h (h.group e) = cuts e l o r in
    record {
      vertex = k.vertex;
      edge = k.edge;
      at = k.at;
      group_is = k.group_is;
      cut = λ c. three k c (ℕ_discrete (degree es k.vertex) 1);
    }
  where
    three : (k : CutIn es h (h.group e)) → degree (es ++ (p ∷ [])) k.vertex ≡ 2 → Dec (degree es k.vertex ≡ 1) → ⊥
    three k c (yes q) = not_both _ (w.leaf_open k.vertex k.edge q k.at) (rw k.group_is o)
    three k c (no q) = omega (arith, degree_snoc es p k.vertex, at_degree es k.vertex k.edge k.at, k.cut)

-- the same of the groups read in another direction
pub soon_alike : (es : List Edge) (p : Edge) {h h' : Shape} → Alike h h' → SoonCuts es p h → SoonCuts es p h'
soon_alike es p {h} {h'} a soon e l o r =
    let g : h'.group e ≡ h.group e = a.group_same e in
    let o' : h'.is_open (h.group e) ≡ false = rw g at o in
    let r' : h'.is_ring (h.group e) ≡ false = rw g at r in
    let k = soon e l (sym (a.open_same (h.group e)) ∙ o') (sym (a.ring_same (h.group e)) ∙ r') in
    record { vertex = k.vertex; edge = k.edge; at = k.at; group_is = a.group_same k.edge ∙ k.group_is ∙ sym g; cut = k.cut }

-- a tap cuts its ring
pub soon_tapped : (es : List Edge) (p : Edge) {h : Shape} (x d k : ℕ) → At es x d → degree es x ≡ 2 → ends_at x p ≡ 1 → SoonCuts es p h → SoonCuts es p (tapped h (h.group d) k)
soon_tapped es p {h} x d k a c o soon e l op r = go (ℕ_discrete (h.group e) (h.group d))
  where
    go : Dec (h.group e ≡ h.group d) → SoonCut es p (tapped h (h.group d) k) (h.group e)
    go (yes q) = record { vertex = x; edge = d; at = a; group_is = sym q; cut = λ z. omega (arith, degree_snoc es p x) }
    go (no q) =
        let s = soon e l op (sym (pick_no (h.group e) (h.group d) false (h.is_ring (h.group e)) q) ∙ r) in
        record { vertex = s.vertex; edge = s.edge; at = s.at; group_is = s.group_is; cut = s.cut }

module _ (it : Growth) where
  open it use {es, p, h, gx, gy, b, r, s}
  open grown_to it use {new, h'}

  -- closed groups without credit are cut after the edge has landed
  pub grown_cuts : SoonCuts es p h → (b ≡ false → r ≡ false → CutIn new h' gx) → Cuts new h'
  grown_cuts soon shut e l o t = go (ℕ_discrete (h'.group e) gx)
    where
      old : e < length es → h'.group e ≢ gx → Dec (h.group e ≡ gy) → CutIn new h' (h'.group e)
      old i n (yes q) = absurd (n (seen_y it e i q).group_is)
      old i n (no q) =
          let g : h'.group e ≡ h.group e = (seen_o it e _ q i refl).group_is in
          let nx : h.group e ≢ gx = λ z. n (g ∙ z) in
          let o' : h'.is_open (h.group e) ≡ false = rw g at o in
          let t' : h'.is_ring (h.group e) ≡ false = rw g at t in
          let k = soon e i (sym (open_o it (h.group e) nx) ∙ o') (sym (ring_o it (h.group e) nx) ∙ t') in
          record {
            vertex = k.vertex;
            edge = k.edge;
            at = at_new es p k.at;
            group_is = (seen_o it k.edge (h.group e) q k.at.inside k.group_is).group_is ∙ sym g;
            cut = k.cut;
          }

      which_is : h'.group e ≢ gx → Which es p e → CutIn new h' (h'.group e)
      which_is n (is_new i) = absurd (n (rw i (seen_new it).group_is))
      which_is n (is_old i) = old i n (ℕ_discrete (h.group e) gy)

      go : Dec (h'.group e ≡ gx) → CutIn new h' (h'.group e)
      go (yes q) =
          let o' : h'.is_open gx ≡ false = rw q at o in
          let t' : h'.is_ring gx ≡ false = rw q at t in
          rw q (shut (sym (open_gx it) ∙ o') (sym (ring_gx it) ∙ t'))
      go (no q) = which_is q (which es p e l)
