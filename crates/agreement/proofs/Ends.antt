-- The walks of one edge: with its first end for home from its second end on; and, on a chain, with that walk's end for home back from its
-- first end.
use mathlib.Core.Path.{◌≡◌, refl, sym, ap, ◌∙◌, subst}
use mathlib.Core.Logic.{◌≢◌}
use Prim.Native.Nat.{ℕ, ◌<◌}
use mathlib.Core.Bool.{true, false}
use mathlib.Core.List.{List}
use lib.ListN.{length, get_or}
use Rattle.model.specs.Graph.{Edge, Pass, edge_at, end_of, end_onwards, far, is_regular, edge_on_ring, onwards, once_round, until, walk}
use Rattle.model.specs.Register.{Register}
use Rattle.model.specs.Tables.{tables_of}
use Rattle.model.specs.Notions.{Reachable}
use Rattle.model.proofs.Walks.Degree.{Proper}
use Rattle.model.proofs.Walks.Turn.{At}
use Rattle.agreement.proofs.Registers.{proper}
use Rattle.agreement.proofs.Chaining.{at_first, at_second}
use Rattle.agreement.proofs.Rounds.{far_first, far_second, open_at, open_onto, open_singular, other_read, past_singular, round_end, round_open, two_read}

abbrev first_of : Register → ℕ → ℕ
first_of r d = (edge_at r.edges d).first

abbrev second_of : Register → ℕ → ℕ
second_of r d = (edge_at r.edges d).second

-- round a ring
pub record Around (r : Register) (d : ℕ) : Type 0 where
  pub passed : until (first_of r d) (walk (length r.edges) r.edges d (second_of r d)) ≡ once_round r.edges d (first_of r d)
  pub ends_at_lem : end_of r.edges (second_of r d) (once_round r.edges d (first_of r d)) ≡ first_of r d
  pub two : get_or (tables_of r).degrees (first_of r d) 0 ≡ 2

-- on a chain
pub record Both (r : Register) (d : ℕ) : Type 0 where
  pub passed : until (first_of r d) (walk (length r.edges) r.edges d (second_of r d)) ≡ onwards r.edges d (second_of r d)
  pub ends_at_lem : end_of r.edges (second_of r d) (onwards r.edges d (second_of r d)) ≡ end_onwards r.edges d (second_of r d)
  pub not_two : get_or (tables_of r).degrees (end_onwards r.edges d (second_of r d)) 0 ≢ 2
  pub back : until (end_onwards r.edges d (second_of r d)) (walk (length r.edges) r.edges d (first_of r d)) ≡ onwards r.edges d (first_of r d)
  pub back_ends : end_of r.edges (first_of r d) (onwards r.edges d (first_of r d)) ≡ end_onwards r.edges d (first_of r d)

-- how the walks of edge d come out, on a ring and on a chain
pub record Ends (r : Register) (d : ℕ) : Type 0 where
  pub ring : edge_on_ring r.edges d ≡ true → Around r d
  pub chain : edge_on_ring r.edges d ≡ false → Both r d

-- the walks of every landed edge come out so, on a ring and on a chain
pub chain_ends : (r : Register) → Reachable r → (d : ℕ) → d < length r.edges → Ends r d
unfolding onwards once_round end_onwards
chain_ends r g d h = record { ring = around; chain = both }
  where
    es : List Edge
    es = r.edges

    pr : Proper es
    pr = proper r g

    a : ℕ
    a = first_of r d

    b : ℕ
    b = second_of r d

    at_a : At es a d
    at_a = at_first r g d h

    at_b : At es b d
    at_b = at_second r g d h

    fa : far es d a ≡ b
    fa = far_first es d

    fb : far es d b ≡ a
    fb = far_second es pr d h

    around : edge_on_ring es d ≡ true → Around r d
    around t =
        let k = round_end es pr d a at_a t in
        record {
          passed = ap (λ (w : ℕ). until a (walk (length es) es d w)) (sym fa);
          ends_at_lem = subst (λ (w : ℕ). end_of es w (once_round es d a) ≡ a) fa k.0;
          two = two_read r g d a at_a k.1;
        }

    both : edge_on_ring es d ≡ false → Both r d
    both f =
        let at_end : At es (end_onwards es d b) (open_onto es pr d a at_a f) = subst (λ (w : ℕ). At es (end_onwards es d w) (open_onto es pr d a at_a f)) fa (open_at es pr d a at_a f) in
        let s : is_regular es (end_onwards es d b) ≡ false = subst (λ (w : ℕ). is_regular es (end_onwards es d w) ≡ false) fa (open_singular es pr d a at_a f) in
        record {
          passed = subst (λ (w : ℕ). until a (onwards es d w) ≡ onwards es d w) fa (round_open es pr d a at_a f);
          ends_at_lem = refl;
          not_two = other_read r g (open_onto es pr d a at_a f) (end_onwards es d b) at_end s;
          back = subst (λ (w : ℕ). until (end_onwards es d b) (onwards es d w) ≡ onwards es d w) fb (past_singular es pr d b at_b f (end_onwards es d b) s);
          back_ends = refl;
        }
