-- The taps of an edge, one or two, as steps on the ghost state over the list of edges before the landing.
use mathlib.Core.Path.{◌≡◌, sym, ◌∙◌}
use mathlib.Core.Logic.{◌≢◌}
use Prim.Native.Nat.{ℕ, ◌+◌, ◌-◌, ◌≤◌}
use native.Mathlib.Omega.{arith}
use native.Mathlib.Decide.{dec_le}
use mathlib.Core.Bool.{false}
use mathlib.Core.List.{List}
use lib.ListN.{length}
use Rattle.model.specs.Graph.{Edge, Pass, ends_at}
use Rattle.model.specs.Labels.{Marks}
use Rattle.model.proofs.Walks.Degree.{Proper}
use Rattle.model.proofs.Walks.Places.{Off}
use Rattle.model.proofs.Walks.Tours.{Tour, OnTour, is_x, is_of}
use Rattle.theory.proofs.Labels.Taps.{relaid, before, Taps, no_tap, one_tap, two_taps}
use Rattle.theory.proofs.Labels.WearsAfter.{LongEnough}
use Rattle.theory.proofs.Labels.Relaid.{relaid_long}
use Rattle.theory.proofs.Groups.Shape.{Shape, pick_no, Courses}
use Rattle.theory.proofs.Groups.Rings.{Cuts, ring_round, vertex_on}
use Rattle.theory.proofs.Groups.Ghosts.{Ghosts}
use Rattle.theory.proofs.Groups.TapLabels.{tap_ghosts}
use Rattle.theory.proofs.Groups.GrownCuts.{SoonCuts, cuts_soon, soon_tapped}

-- the ghost state of a register: groups and blocks, and every closed group without credit is cut
pub record Settled (es : List Edge) (relabellings : ℕ) (m : Marks) (blocks : ℕ) : Type 0 where
  pub ghosts : Ghosts es relabellings m blocks
  pub cuts : Cuts es ghosts.shape

-- .. and with the taps of the edge p, before it lands
pub record Tapped (es : List Edge) (p : Edge) (relabellings : ℕ) (m : Marks) (blocks : ℕ) : Type 0 where
  pub ghosts : Ghosts es relabellings m blocks
  pub soon : SoonCuts es p ghosts.shape

-- a number of at most a + b in two parts
record Parts (k a b : ℕ) : Type 0 where
  one : ℕ
  two : ℕ
  one_most : one ≤ a
  two_most : two ≤ b
  sum : k ≡ one + two

parts : (k a b : ℕ) → k ≤ a + b → Parts k a b
parts k a b l = go (dec_le k a)
  where
    go : Dec (k ≤ a) → Parts k a b
    go (yes q) = record { one = k; two = 0; one_most = q; two_most = omega arith; sum = omega arith }
    go (no q) = record { one = a; two = k - a; one_most = omega arith; two_most = omega arith; sum = omega arith }

module _ {es : List Edge} (p : Edge) (pr : Proper es) {relabellings : ℕ} {m : Marks} {blocks : ℕ} (st : Settled es relabellings m blocks) (lg : LongEnough es m) where
  h : Shape
  h = st.ghosts.shape

  w : Courses es relabellings st.ghosts.shape
  w = st.ghosts.courses

  first : (x d q : ℕ) (path : List Pass) → ends_at x p ≡ 1 → Tour es x d q path → (j : ℕ) → j ≤ length path → Tapped es p (relabellings + j) (relaid (before (blocks + 1)) x q path m) (blocks + 1)
  first x d q path o r j l = record {
    ghosts = tap_ghosts pr st.ghosts lg r (ring_round pr w r st.cuts) j l;
    soon = soon_tapped es p x d j r.d_at r.two o (cuts_soon es p w st.cuts);
  }

  module _ (x d q : ℕ) (path : List Pass) (y d' q' : ℕ) (path' : List Pass) (ox : ends_at x p ≡ 1) (oy : ends_at y p ≡ 1) (xy : x ≢ y) (off : Off path y)
      (r : Tour es x d q path) (r' : Tour es y d' q' path') (i j : ℕ) (il : i ≤ length path) (jl : j ≤ length path') where
    -- the two rings are two groups
    apart : h.group d' ≢ h.group d
    unfolding h
    apart e = go (vertex_on pr w r y d' r'.d_at e)
      where
        go : OnTour pr r y → ⊥
        go (is_x z) = xy (sym z)
        go (is_of f) = off f.index f.pass_is f.ith f.at_is

    g₁ : Ghosts es (relabellings + i) (relaid (before (blocks + 1)) x q path m) (blocks + 1)
    g₁ = (first x d q path ox r i il).ghosts

    both : Tapped es p (relabellings + i + j) (relaid (before (blocks + 1 + 1)) y q' path' (relaid (before (blocks + 1)) x q path m)) (blocks + 1 + 1)
    unfolding first g₁ h
    both = record {
      ghosts = tap_ghosts pr g₁ (relaid_long (before (blocks + 1)) x q path m lg) r'
          (pick_no (h.group d') (h.group d) false (h.is_ring (h.group d')) apart ∙ ring_round pr w r' st.cuts) j jl;
      soon = soon_tapped es p y d' j r'.d_at r'.two oy (first x d q path ox r i il).soon;
    }

  -- after all taps of an edge there is a ghost state
  pub taps_tapped : {blocks₁ k : ℕ} {m₁ : Marks} → Taps es p blocks m blocks₁ m₁ k → (j : ℕ) → j ≤ k → Tapped es p (relabellings + j) m₁ blocks₁
  taps_tapped (no_tap b e k) j l =
      let z : relabellings + j ≡ relabellings = omega (arith, k, l) in
      rw (b, e, z) (record { ghosts = st.ghosts; soon = cuts_soon es p w st.cuts })
  taps_tapped (one_tap x d q path o r b e k) j l = rw (b, e) (first x d q path o r j (omega (arith, k, l)))
  taps_tapped (two_taps x d q path y d' q' path' o o' xy f r r' b e k) j l =
      let s = parts j (length path) (length path') (omega (arith, k, l)) in
      let z : relabellings + j ≡ relabellings + s.one + s.two = omega (arith, s.sum) in
      rw (b, e, z) (both x d q path y d' q' path' o o' xy f r r' s.one s.two s.one_most s.two_most)
