-- The ways out of `right_text` and of `judge`.
use mathlib.Core.Path.{◌≡◌, refl, sym, ap, ◌∙◌}
use Prim.Native.Nat.{ℕ, ◌+◌, ◌*◌, ◌≤◌}
use native.Mathlib.Omega.{arith}
use mathlib.Core.List.{List}
use lib.ListN.{length, take}
use Rattle.model.specs.Basics.{max_edges}
use Rattle.model.specs.Format.{Read, Stop, whole, stopped, grow_list}
use Rattle.model.specs.Tables.{cleared, no_counts}
use Rattle.model.specs.Printing.{listing}
use Rattle.model.specs.Judging.{Verdict, not_judged, compare_texts, judge}
use Rattle.theory.proofs.Judging.{refused_told, whole_judged}
use Rattle.agreement.proofs.Sheeting.{sheet_over}
use Rattle.landing.specs.Records.{ReadingIn, land_list_in}
use Rattle.landing.proofs.Growing.{list_leaves}
use Rattle.io.specs.Counts.{IsPrefixLen as Counted}
use Rattle.streams.proofs.Input.{counted}
use Rattle.text.specs.Pages.{Page, page, write}
use Rattle.listing.specs.Listing.{listing_in, head_bytes, row_bytes, stop_bytes, room_bytes}
use Rattle.listing.proofs.Whole.{lists}
use Rattle.judging.specs.Right.{RightText, listed, stops, right_of}

-- ---- the right text

right_whole : (d : Read) → d.stop ≡ whole → listed (listing d) ≡ right_of d
unfolding right_of
right_whole d e = sym (ap (λ (s : Stop). elim s [ whole ↦ listed (listing d) | stopped k x ↦ stops k x ]) e)

right_stops : (d : Read) (k x : ℕ) → d.stop ≡ stopped k x → stops k x ≡ right_of d
unfolding right_of
right_stops d k x e = sym (ap (λ (s : Stop). elim s [ whole ↦ listed (listing d) | stopped n y ↦ stops n y ]) e)

module _ (bs : List ℕ) (d : ReadingIn) (grown : d ≡ land_list_in cleared no_counts max_edges bs) where
  same_stop : (s : Stop) → s ≡ d.stop → (grow_list bs).stop ≡ s
  same_stop s e = sym (e ∙ ap (λ (z : ReadingIn). z.stop) (grown ∙ list_leaves bs))

  -- a list that is read whole: what is written is its right text
  pub text_given : (out : List ℕ) (q : Page) → room_bytes ≤ length out → whole ≡ d.stop
      → q ≡ write (listing_in d.counts (sheet_over d.tables d.counts.edges max_edges) whole) (page out 0)
      → q.at ≤ head_bytes + row_bytes * d.counts.edges + stop_bytes → Counted q.at q.slice × (listed (take q.at q.slice) ≡ right_of (grow_list bs))
  text_given out q l s e b =
      let f : q ≡ write (listing_in d.counts (sheet_over d.tables d.counts.edges max_edges) d.stop) (page out 0) =
      e ∙ ap (λ (z : Stop). write (listing_in d.counts (sheet_over d.tables d.counts.edges max_edges) z) (page out 0)) s in
      let w = lists bs out d q l grown f b in
      (w.0, ap listed w.1 ∙ right_whole (grow_list bs) (same_stop whole s))

  -- a list that stops: nothing is written, and where it stops is the answer
  pub stop_given : (out : List ℕ) (k x : ℕ) → stopped k x ≡ d.stop → Counted 0 out × (stops k x ≡ right_of (grow_list bs))
  stop_given out k x s = (counted 0 out (omega arith), right_stops (grow_list bs) k x (same_stop (stopped k x) s))

-- ---- the verdict

-- the verdict on a text, by what it is compared with
abbrev judged_by : RightText → List ℕ → Verdict
judged_by (listed right) text = compare_texts right text
judged_by (stops k x) text = not_judged k x

judged_by_lem : (bs text : List ℕ) → judged_by (right_of (grow_list bs)) text ≡ judge bs text
unfolding right_of judge
judged_by_lem bs text = go (grow_list bs).stop refl
  where
    go : (s : Stop) → (grow_list bs).stop ≡ s → judged_by (right_of (grow_list bs)) text ≡ judge bs text
    go whole e = ap (λ (t : RightText). judged_by t text) (sym (right_whole (grow_list bs) e)) ∙ sym (whole_judged bs text e)
    go (stopped k x) e = ap (λ (t : RightText). judged_by t text) (sym (right_stops (grow_list bs) k x e)) ∙ sym (refused_told bs text k x e)

-- the verdict of the comparison with the right text is that on the list and the text
pub text_judged : (bs right text : List ℕ) (v : Verdict) → listed right ≡ right_of (grow_list bs) → v ≡ compare_texts right text → v ≡ judge bs text
text_judged bs right text v e f = f ∙ ap (λ (t : RightText). judged_by t text) e ∙ judged_by_lem bs text

-- of a list that stops, no text is judged
pub stop_judged : (bs text : List ℕ) (k x : ℕ) → stops k x ≡ right_of (grow_list bs) → not_judged k x ≡ judge bs text
stop_judged bs text k x e = ap (λ (t : RightText). judged_by t text) e ∙ judged_by_lem bs text
