-- What the answers of a house come to that demand 3 compares, and the bound, from its register and the edges that count.
use mathlib.Core.Path.{◌≡◌, sym, ap, ◌∙◌, subst}
use Prim.Native.Nat.{ℕ, ◌*◌, ◌≤◌, ◌<◌}
use mathlib.Core.Bool.{true}
use mathlib.Core.List.{List, ◌++◌}
use lib.ListN.{length, take, drop}
use lib.Seq.{take-append_seam, drop-append_seam}
use Rattle.model.specs.Basics.{floor_log, sum, row_size}
use Rattle.model.specs.Graph.{is_regular}
use Rattle.model.specs.Register.{Register, label_of}
use Rattle.model.specs.Distance.{distance}
use Rattle.model.specs.Queries.{Reply, find, find_at, listed, sheet, sheet_numbers}
use Rattle.model.specs.Tables.{edge_lengths}
use Rattle.model.specs.Calls.{Answer, Ask, House, answer, answers, finding, finding_at, measuring, sheeting}
use Rattle.model.specs.Series.{Compared, DistanceAnswer, FindsOwn, Landing, SheetAnswer, landed_edges, length_column}
use Rattle.model.specs.Notions.{Reachable}
use Rattle.model.proofs.Walks.Degree.{Proper}
use Rattle.model.proofs.Chains.Sheet.{sheet_sum, sheet_length, sheet_into}
use Rattle.model.proofs.Distances.Distance.{is_distance}
use Rattle.theory.proofs.Distances.Hops.{chains_distance, loose_distance}
use Rattle.theory.proofs.Registers.Labelled.{label_facts}
use Rattle.theory.proofs.Registers.Sides.{sided}
use Rattle.theory.proofs.Registers.Answers.{finds_chain, measure_is}
use Rattle.theory.proofs.Registers.Reachable.{founded}
use Rattle.theory.proofs.Series.Told.{Told, edges_count}

-- a house, and questions that are answered as its register is
module _ (s : House) (k : Reachable s.register) (asked : Ask → Answer) (Asked-is : (q : Ask) → asked q ≡ answer q s) where
  abbrev r : Register
  r = s.register

  proper : Proper r.edges
  proper = (founded r k).proper

  sheet_answer : (slice : List ℕ) (total : ℕ) → sum (edge_lengths r.edges) ≡ total
      → row_size * length (sheet r) ≤ length slice → SheetAnswer (asked (sheeting slice)) r slice total
  sheet_answer slice total e h =
      record {
        reply_is = ap (λ (a : Answer). a.reply) into;
        front = front;
        rest = ap (λ (a : Answer). drop n a.slice) into ∙ parts.1;
        adds_up = ap (λ (xs : List ℕ). sum (length_column xs)) front ∙ sheet_sum r proper ∙ e;
      }
    where
      ns : List ℕ
      ns = sheet_numbers r

      n : ℕ
      n = row_size * length (sheet r)

      into : asked (sheeting slice) ≡ record { slice = ns ++ drop n slice; reply = listed (length (sheet r)) }
      into = Asked-is (sheeting slice) ∙ sheet_into s slice h

      parts : (take n (ns ++ drop n slice) ≡ ns) × (drop n (ns ++ drop n slice) ≡ drop n slice)
      parts =
          subst (λ (l : ℕ). (take l (ns ++ drop n slice) ≡ ns) × (drop l (ns ++ drop n slice) ≡ drop n slice)) (sheet_length r)
          (take-append_seam ns (drop n slice), drop-append_seam ns (drop n slice))

      front : take n (asked (sheeting slice)).slice ≡ ns
      front = ap (λ (a : Answer). take n a.slice) into ∙ parts.0

  find_answer : (v : ℕ) → is_regular r.edges v ≡ true → FindsOwn r v (asked (finding (label_of r v))).reply
  unfolding answer answers
  find_answer v c =
      let told : (asked (finding (label_of r v))).reply ≡ find r (label_of r v) = ap (λ (a : Answer). a.reply) (Asked-is (finding (label_of r v))) in
      subst (λ (a : Reply). FindsOwn r v a) (sym told) (finds_chain r (founded r k) (sided r k) (label_facts r k) v c)

  find_at_answer : (v : ℕ) → is_regular r.edges v ≡ true → FindsOwn r v (asked (finding_at v)).reply
  unfolding answer answers find_at
  find_at_answer v c =
      let told : (asked (finding_at v)).reply ≡ find r (label_of r v) = ap (λ (a : Answer). a.reply) (Asked-is (finding_at v)) in
      subst (λ (a : Reply). FindsOwn r v a) (sym told) (finds_chain r (founded r k) (sided r k) (label_facts r k) v c)

  distance_answer : (v w : ℕ) → v < r.vertices → w < r.vertices → DistanceAnswer r.edges v w (asked (measuring v w)).reply
  unfolding answer answers
  distance_answer v w a b =
      let l = distance r.edges v w in
      let e = is_distance r.edges v w in
      record {
        distance = l;
        reply_is = ap (λ (x : Answer). x.reply) (Asked-is (measuring v w)) ∙ measure_is r v w a b;
        over_edges = e;
        over_chains = chains_distance r.edges proper v w l e;
        any_stops = loose_distance r.edges proper v w l e;
      }

  -- its sheets, finds and distances are those that demand 3 asks for, where its edges are those that count
  pub compared : (ls : List Landing) → Told s.register ls → Compared asked s.register ls
  compared ls t =
      record {
        lengths = λ slice h. sheet_answer slice (sum (edge_lengths (landed_edges ls))) (rw t.edges_are) h;
        finds_own = find_answer;
        finds_at_lem = find_at_answer;
        distances = distance_answer;
      }

-- the bound, over the edges that count
pub few_relabelled : (r : Register) → Reachable r → (ls : List Landing) → Told r ls → r.relabellings ≤ length ls * floor_log (length ls)
few_relabelled r k ls t =
    let n : length r.edges ≡ length ls = ap length (sym t.edges_are) ∙ edges_count ls in
    subst (λ (m : ℕ). r.relabellings ≤ m * floor_log m) n (label_facts r k).bound
