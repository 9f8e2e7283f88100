-- Document 02, S-9: verdicts that tell readings apart.
use Rattle.std.specs.Prelude.{◌≡◌, ℕ, List, [], ◌∷◌, ◌++◌}
use Prim.Native.String.{String}
use Rattle.model.specs.Printing.{ascii, printed}
use Rattle.model.specs.Judging.{Verdict, agrees, wrong_line, not_judged, judge}
use Rattle.model.specs.Values.{list1, house, ring, one_edge, one_filled, filled_house, filled_ring}

unfoldable pub on : List ℕ → String → Verdict
on bs text = judge bs (ascii text)

pub record Verdicts : Type 0 where
  pub right : on house "7 6 3 1\n0 0 3 2 3300 -\n2 3 5 1 1200 -\n5 3 6 0 900 -\n" ≡ agrees
  pub own_print : judge house (printed house) ≡ agrees
  pub no_runs : on (list1 0 []) "0 0 0 0\n" ≡ agrees
  -- "the first line that isn't", the head's line being line 1; two that are swapped
  pub head : on house "7 6 3 0\n0 0 3 2 3300 -\n2 3 5 1 1200 -\n5 3 6 0 900 -\n" ≡ wrong_line 1
  pub second : on house "7 6 3 1\n0 0 3 2 3301 -\n2 3 5 1 1201 -\n5 3 6 0 900 -\n" ≡ wrong_line 2
  pub last : on house "7 6 3 1\n0 0 3 2 3300 -\n2 3 5 1 1200 -\n5 3 6 0 901 -\n" ≡ wrong_line 4
  pub swapped : on house "7 6 3 1\n0 0 3 2 3300 -\n5 3 6 0 900 -\n2 3 5 1 1200 -\n" ≡ wrong_line 3
  -- the same numbers, written otherwise
  pub blank_before : on house " 7 6 3 1\n0 0 3 2 3300 -\n2 3 5 1 1200 -\n5 3 6 0 900 -\n" ≡ wrong_line 1
  pub two_blanks : on house "7 6 3 1\n0 0 3 2 3300 -\n2 3 5 1  1200 -\n5 3 6 0 900 -\n" ≡ wrong_line 3
  pub leading_zero : on house "7 6 3 1\n0 0 3 2 3300 -\n2 3 5 1 1200 -\n5 3 6 0 0900 -\n" ≡ wrong_line 4
  pub two_byte_ends : judge house (ascii "7 6 3 1" ++ (13 ∷ ascii "\n0 0 3 2 3300 -\n2 3 5 1 1200 -\n5 3 6 0 900 -\n")) ≡ wrong_line 1
  -- "a missing .. line included": within, at the end, all but the head's, and all
  pub without_second : on house "7 6 3 1\n2 3 5 1 1200 -\n5 3 6 0 900 -\n" ≡ wrong_line 2
  pub without_last : on house "7 6 3 1\n0 0 3 2 3300 -\n2 3 5 1 1200 -\n" ≡ wrong_line 4
  pub head_alone : on house "7 6 3 1\n" ≡ wrong_line 2
  pub without_head : on house "0 0 3 2 3300 -\n2 3 5 1 1200 -\n5 3 6 0 900 -\n" ≡ wrong_line 1
  pub nothing : on house "" ≡ wrong_line 1
  -- "or surplus": within, an empty one and a lone byte at the end, and the whole once more
  pub second_twice : on house "7 6 3 1\n0 0 3 2 3300 -\n0 0 3 2 3300 -\n2 3 5 1 1200 -\n5 3 6 0 900 -\n" ≡ wrong_line 3
  pub empty_line : on house "7 6 3 1\n0 0 3 2 3300 -\n2 3 5 1 1200 -\n5 3 6 0 900 -\n\n" ≡ wrong_line 5
  pub lone_byte : on house "7 6 3 1\n0 0 3 2 3300 -\n2 3 5 1 1200 -\n5 3 6 0 900 -\n " ≡ wrong_line 5
  pub twice : judge house (printed house ++ printed house) ≡ wrong_line 5
  -- "a line lacking its end byte is wrong": the last one, and one that goes on with the next
  pub cut_end : on house "7 6 3 1\n0 0 3 2 3300 -\n2 3 5 1 1200 -\n5 3 6 0 900 -" ≡ wrong_line 4
  pub cut_second : on house "7 6 3 1\n0 0 3 2 3300 -" ≡ wrong_line 2
  pub no_end_within : on house "7 6 3 1\n0 0 3 2 3300 -2 3 5 1 1200 -\n5 3 6 0 900 -\n" ≡ wrong_line 2
  pub one_byte : on house "7" ≡ wrong_line 1
  -- "Rings and volumes are included": a ring's line is the right one, a run in its place is not
  pub ring_right : on ring "2 2 1 0\n0 0 0 2 10 -\n" ≡ agrees
  pub ring_other_end : on ring "2 2 1 0\n0 0 1 2 10 -\n" ≡ wrong_line 2
  pub without_ring : on ring "2 2 0 0\n" ≡ wrong_line 1
  pub ring_volume : on (filled_ring 40) "3 3 1 0\n0 0 0 3 7 70\n" ≡ agrees
  pub volume_right : on (filled_house 13) "7 6 3 1\n0 0 3 2 3300 1000054\n2 3 5 1 1200 20\n5 3 6 0 900 1\n" ≡ agrees
  pub volume_other : on (filled_house 13) "7 6 3 1\n0 0 3 2 3300 1000054\n2 3 5 1 1200 21\n5 3 6 0 900 1\n" ≡ wrong_line 3
  pub unknown_right : on (filled_house 0) "7 6 3 1\n0 0 3 2 3300 1000054\n2 3 5 1 1200 -\n5 3 6 0 900 1\n" ≡ agrees
  pub known_as_unknown : on (filled_house 13) "7 6 3 1\n0 0 3 2 3300 1000054\n2 3 5 1 1200 -\n5 3 6 0 900 1\n" ≡ wrong_line 3
  pub unknown_as_0 : on (filled_house 0) "7 6 3 1\n0 0 3 2 3300 1000054\n2 3 5 1 1200 0\n5 3 6 0 900 1\n" ≡ wrong_line 3
  pub no_volume : on ring "2 2 1 0\n0 0 0 2 10\n" ≡ wrong_line 2
  -- "A refused list gives its own refusal and no verdict on the sheet", whatever that is: of the header, and of a record
  pub no_mark : on (ascii "PN") "" ≡ not_judged 0 1
  pub version : on (ascii "PNL" ++ (3 ∷ 0 ∷ [])) "0 0 0 0\n" ≡ not_judged 0 2
  pub cut_header : on (ascii "PNL") "0 0 0 0\nstopped 0 3\n" ≡ not_judged 0 3
  pub last_record : on (house ++ ascii "X") "7 6 3 1\n0 0 3 2 3300 -\n2 3 5 1 1200 -\n5 3 6 0 900 -\n" ≡ not_judged 13 4
  pub own_stop : judge (one_edge 0 0 1) (printed (one_edge 0 0 1)) ≡ not_judged 2 6
  pub volume_refused : on (one_filled 1 1000001) "2 0 0 0\n" ≡ not_judged 2 31
