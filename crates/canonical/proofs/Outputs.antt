-- The ways out of `canonical_list`.
use mathlib.Core.Path.{◌≡◌, sym, ap, ◌∙◌}
use Prim.Native.Nat.{ℕ, ◌≤◌, ◌<◌}
use native.Mathlib.Omega.{arith}
use mathlib.Core.List.{List}
use lib.ListN.{length, take}
use borrow.Author.Tests.{lt-ltb, le-ltb}
use Rattle.model.specs.Basics.{max_edges, max_vertices}
use Rattle.model.specs.Register.{Register}
use Rattle.model.specs.Format.{Stop, whole, stopped, grow_list, written}
use Rattle.model.specs.Tables.{counts_of, cleared, no_counts}
use Rattle.model.specs.Printing.{ascii, stop_line}
use Rattle.model.specs.Notions.{Reachable}
use Rattle.theory.proofs.Series.Landings.{reachable_grown}
use Rattle.agreement.proofs.Registers.{few, room}
use Rattle.list.specs.Writing.{list_in}
use Rattle.list.proofs.WritingLaws.{list_bytes, list_written}
use Rattle.landing.specs.Records.{ReadingIn, land_list_in}
use Rattle.landing.proofs.ListAgrees.{shown_read}
use Rattle.landing.proofs.Growing.{list_leaves}
use Rattle.io.specs.Counts.{IsPrefixLen as Counted}
use Rattle.streams.proofs.Input.{counted}
use Rattle.text.specs.Pages.{Page, page, write}
use Rattle.text.proofs.PageLaws.{write_held}
use Rattle.text.proofs.LineLaws.{stop_length}
use Rattle.canonical.specs.Output.{Streams, gives, tells, canonical, canonical_of, room_bytes}

-- what a page holds whose text fits, told on one stream or the other
page_holds : (give : List ℕ → Streams) (xs bs out : List ℕ) (q : Page) → q ≡ write xs (page out 0) → length xs ≤ length out → give xs ≡ canonical bs
    → Counted q.at q.slice × (give (take q.at q.slice) ≡ canonical bs)
page_holds give xs bs out q e h f =
    let w = write_held xs out q e h in
    (counted q.at q.slice w.0, ap give w.1 ∙ f)

-- a list that is too long is told
pub too_long : (bs out word : List ℕ) (q : Page) → 65536 < length bs → room_bytes ≤ length out → word ≡ ascii "too long\n" → q ≡ write word (page out 0)
    → Counted q.at q.slice × (tells (take q.at q.slice) ≡ canonical bs)
unfolding canonical ascii
too_long bs out word q h l w e =
    let n : length word ≡ 9 = rw w in
    page_holds tells word bs out q e (omega (arith, n)) (rw (lt-ltb 65536 (length bs) h) (ap tells w))

vertices_few : (r : Register) → Reachable r → (counts_of r).vertices ≤ max_vertices
unfolding counts_of
vertices_few r g = few r g

edges_few : (r : Register) → Reachable r → (counts_of r).edges ≤ max_edges
unfolding counts_of
edges_few r g = room r g

module _ (bs out : List ℕ) (d : ReadingIn) (short : length bs ≤ 65536) (long : room_bytes ≤ length out) (grown : d ≡ land_list_in cleared no_counts max_edges bs) where
  abbrev reg : Register
  reg = (grow_list bs).register

  shown : d ≡ shown_read (grow_list bs)
  shown = grown ∙ list_leaves bs

  same_stop : (s : Stop) → s ≡ d.stop → (grow_list bs).stop ≡ s
  same_stop s e = sym (e ∙ ap (λ (z : ReadingIn). z.stop) shown)

  -- of a list that lands the canonical list is given
  pub whole_given : (q : Page) → whole ≡ d.stop → q ≡ write (list_in d.tables.ends d.tables.lengths d.tables.volumes d.counts) (page out 0)
      → Counted q.at q.slice × (gives (take q.at q.slice) ≡ canonical bs)
  unfolding canonical canonical_of
  whole_given q s e =
      let g : Reachable reg = reachable_grown bs in
      let c : d.counts ≡ counts_of reg = ap (λ (z : ReadingIn). z.counts) shown in
      let w : list_in d.tables.ends d.tables.lengths d.tables.volumes d.counts ≡ written reg = list_written reg d.tables d.counts (ap (λ (z : ReadingIn). z.tables) shown) c in
      let v : d.counts.vertices ≤ max_vertices = rw c (vertices_few reg g) in
      let n : d.counts.edges ≤ max_edges = rw c (edges_few reg g) in
      let fits : length (list_in d.tables.ends d.tables.lengths d.tables.volumes d.counts) ≤ length out = omega (arith, v, n, list_bytes d.tables.ends d.tables.lengths d.tables.volumes d.counts) in
      page_holds gives _ bs out q e fits (rw (le-ltb 65536 (length bs) short, same_stop whole s) (ap gives w))

  -- a stop is told
  pub stop_told : (k x : ℕ) (q : Page) → k < 18446744073709551616 → x < 4294967296 → stopped k x ≡ d.stop → q ≡ write (stop_line (stopped k x)) (page out 0)
      → Counted q.at q.slice × (tells (take q.at q.slice) ≡ canonical bs)
  unfolding canonical canonical_of
  stop_told k x q hk hx s e =
      page_holds tells _ bs out q e (omega (arith, stop_length k x hk hx)) (rw (le-ltb 65536 (length bs) short, same_stop (stopped k x) s))
