-- The whole listing: what was written is what document 01 has the program print.
use mathlib.Core.Path.{◌≡◌, sym, ap, ◌∙◌}
use Prim.Native.Nat.{ℕ, ◌+◌, ◌*◌, ◌≤◌, ◌<◌}
use native.Mathlib.Omega.{arith}
use mathlib.Core.List.{List, [], ◌∷◌}
use lib.ListN.{length, take}
use lib.Seq.{length-take-le}
use borrow.Author.Tests.{lt-ltb, le-ltb}
use Rattle.model.specs.Basics.{max_edges}
use Rattle.model.specs.Register.{Register}
use Rattle.model.specs.Format.{Read, Stop, grow_list}
use Rattle.model.specs.Tables.{Counts, tables_of, counts_of, cleared, no_counts}
use Rattle.model.specs.Printing.{ascii, line, listing, printed, row_lines, stop_line}
use Rattle.model.specs.Notions.{Reachable}
use Rattle.theory.proofs.Series.Landings.{reachable_grown}
use Rattle.agreement.proofs.Registers.{room}
use Rattle.agreement.proofs.Sheeting.{sheet_agrees, sheet_over}
use Rattle.landing.specs.Records.{ReadingIn, land_list_in}
use Rattle.landing.proofs.ListAgrees.{shown_read}
use Rattle.landing.proofs.Growing.{list_leaves}
use Rattle.io.specs.Counts.{IsPrefixLen as Counted}
use Rattle.text.specs.Pages.{Page, page, write}
use Rattle.text.proofs.PageLaws.{write_two, write_at, write_fits, write_room}
use Rattle.listing.specs.Listing.{listing_in, head_bytes, row_bytes, stop_bytes, room_bytes}

-- the four numbers, the sheet and the stop, one after the other
pub listing_parts : (c : Counts) (rows : List (List ℕ)) (a : Stop) (k : ℕ) (p q r s : Page) → k ≡ length rows
    → q ≡ write (line (c.vertices ∷ c.edges ∷ k ∷ c.relabellings ∷ [])) p → r ≡ write (row_lines rows) q → s ≡ write (stop_line a) r
    → s ≡ write (listing_in c rows a) p
unfolding listing_in
listing_parts c rows a k p q r s n e f g =
    let head : q ≡ write (line (c.vertices ∷ c.edges ∷ length rows ∷ c.relabellings ∷ [])) p = rw (← n) e in
    write_two _ (stop_line a) p r s (write_two _ _ p q r head f) g

-- the listing of the tables is that of the register
listing_is : (d : Read) → Reachable d.register
    → listing_in (counts_of d.register) (sheet_over (tables_of d.register) (counts_of d.register).edges max_edges) d.stop ≡ listing d
unfolding listing_in listing counts_of
listing_is d g = rw (sheet_agrees d.register g max_edges (omega arith))

-- what a page holds that ends before the end of its slice
page_holds : (xs ys out : List ℕ) (q : Page) → q ≡ write xs (page out 0) → q.at < length out → xs ≡ ys
    → Counted q.at q.slice × (take q.at q.slice ≡ ys)
page_holds xs ys out q e l f =
    let m : (write xs (page out 0)).at < length out = rw (← e) l in
    let w = write_fits xs out 0 (write_room xs out 0 (omega arith) m) in
    let long : length q.slice ≡ length out = rw e w.long in
    let front : take q.at q.slice ≡ xs = rw e w.front in
    ((omega arith, sym (length-take-le q.at q.slice (omega arith))), front ∙ f)

-- a list that is too long: that alone is printed
pub too_long : (bs out word : List ℕ) (q : Page) → 65536 < length bs → room_bytes ≤ length out → word ≡ ascii "too long\n" → q ≡ write word (page out 0)
    → Counted q.at q.slice × (take q.at q.slice ≡ printed bs)
unfolding printed ascii
too_long bs out word q h l w e =
    let n : length word ≡ 9 = rw w in
    let a : q.at ≡ (write word (page out 0)).at = ap (λ (z : Page). z.at) e in
    let b : q.at ≤ 9 = omega (arith, a, n, write_at word (page out 0)) in
    page_holds word (printed bs) out q e (omega arith) (rw (lt-ltb 65536 (length bs) h) w)

edges_few : (r : Register) → Reachable r → (counts_of r).edges ≤ max_edges
unfolding counts_of
edges_few r g = room r g

printed_short : (bs : List ℕ) → length bs ≤ 65536 → listing (grow_list bs) ≡ printed bs
unfolding printed
printed_short bs h = rw (le-ltb 65536 (length bs) h)

-- the listing of any list, with no regard to its length
pub lists : (bs out : List ℕ) (d : ReadingIn) (q : Page) → room_bytes ≤ length out → d ≡ land_list_in cleared no_counts max_edges bs
    → q ≡ write (listing_in d.counts (sheet_over d.tables d.counts.edges max_edges) d.stop) (page out 0)
    → q.at ≤ head_bytes + row_bytes * d.counts.edges + stop_bytes → Counted q.at q.slice × (take q.at q.slice ≡ listing (grow_list bs))
lists bs out d q l e f b =
    let g : Reachable (grow_list bs).register = reachable_grown bs in
    let i : d ≡ shown_read (grow_list bs) = e ∙ list_leaves bs in
    let k : d.counts.edges ≡ (counts_of (grow_list bs).register).edges = ap (λ (z : ReadingIn). z.counts.edges) i in
    let few : d.counts.edges ≤ max_edges = omega (arith, k, edges_few (grow_list bs).register g) in
    let x : listing_in d.counts (sheet_over d.tables d.counts.edges max_edges) d.stop ≡ listing (grow_list bs) =
    ap (λ (z : ReadingIn). listing_in z.counts (sheet_over z.tables z.counts.edges max_edges) z.stop) i ∙ listing_is (grow_list bs) g in
    page_holds _ (listing (grow_list bs)) out q f (omega (arith, few)) x

-- any other: its listing
pub prints : (bs out : List ℕ) (d : ReadingIn) (q : Page) → length bs ≤ 65536 → room_bytes ≤ length out → d ≡ land_list_in cleared no_counts max_edges bs
    → q ≡ write (listing_in d.counts (sheet_over d.tables d.counts.edges max_edges) d.stop) (page out 0)
    → q.at ≤ head_bytes + row_bytes * d.counts.edges + stop_bytes → Counted q.at q.slice × (take q.at q.slice ≡ printed bs)
prints bs out d q h l e f b = let w = lists bs out d q l e f b in (w.0, w.1 ∙ printed_short bs h)
