-- What every landing keeps besides the labels themselves: edges are lawful, and tables have room.
use mathlib.Core.Path.{◌≡◌, ◌∙◌}
use Prim.Native.Nat.{ℕ, ◌≤◌, ◌<◌}
use native.Mathlib.Omega.{arith}
use native.Mathlib.Nat.{not-suc-le-zero}
use mathlib.Core.Bool.{true}
use lib.ListN.{length, length-replicate}
use Rattle.model.specs.Basics.{max_edges, max_vertices}
use Rattle.model.specs.Graph.{Edge, is_regular}
use Rattle.model.specs.Register.{Register, empty, marks_of, with_edge, with_vertex}
use Rattle.model.specs.Notions.{Admissible}
use Rattle.model.proofs.Walks.Degree.{AllLawful, Proper, is_two, proper_snoc}
use Rattle.model.proofs.Walks.Turn.{TwoEdges, two_edges}
use Rattle.model.proofs.Walks.NewEdge.{length_new}
use Rattle.theory.proofs.Labels.Sizes.{edge_long}
use Rattle.theory.proofs.Registers.Lawful.{ends_landed, lawful_more, lawful_snoc}

-- edges are lawful, and no more than can be; the tables have their sizes
pub record Founded (r : Register) : Type 0 where
  pub proper : Proper r.edges
  pub labels_long : length r.labels ≡ max_vertices
  pub lows_long : length r.lows ≡ max_vertices
  pub few : r.vertices ≤ max_vertices
  pub lawful : AllLawful r.vertices r.edges
  pub room : length r.edges ≤ max_edges

-- an edge and a vertex more keep it, and the empty register has it
pub founded_edge : (r : Register) (p : Edge) → Founded r → Admissible r p → Founded (with_edge r p)
unfolding with_edge marks_of
founded_edge r p c a =
    let es = r.edges in
    let l = edge_long es p r.blocks (marks_of r) in
    record {
      proper = proper_snoc es p c.proper a.lawful.differ;
      labels_long = l.labels_long ∙ c.labels_long;
      lows_long = l.lows_long ∙ c.lows_long;
      few = c.few;
      lawful = lawful_snoc r.vertices es p c.lawful a.lawful;
      room = omega (arith, length_new es p, a.room);
    }

pub founded_vertex : (r : Register) → Founded r → r.vertices < max_vertices → Founded (with_vertex r)
unfolding with_vertex
founded_vertex r c h =
    record {
      proper = c.proper;
      labels_long = c.labels_long;
      lows_long = c.lows_long;
      few = omega arith;
      lawful = λ d l. lawful_more r.vertices _ (c.lawful d l);
      room = c.room;
    }

pub founded_empty : Founded empty
unfolding empty
founded_empty =
    record {
      proper = tt;
      labels_long = length-replicate {A = ℕ} max_vertices 0;
      lows_long = length-replicate {A = ℕ} max_vertices 0;
      few = omega arith;
      lawful = λ d l. absurd (not-suc-le-zero l);
      room = omega arith;
    }

-- a regular vertex is landed
pub regular_landed : (r : Register) → Founded r → (v : ℕ) → is_regular r.edges v ≡ true → v < r.vertices
regular_landed r c v q =
    let two : TwoEdges r.edges v = two_edges r.edges v c.proper (is_two r.edges v q) in
    ends_landed r.vertices r.edges c.lawful v _ two.low_at_lem
