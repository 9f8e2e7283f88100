-- Document 02, S-10 and S-11: what is lent of eight houses, and one of them in it.
use Rattle.std.specs.Prelude.{ℕ, ◌*◌, List, ◌++◌, map, get_or, set, take, drop, replicate}
use Rattle.std.proofs.Math.Option.{none, some}
use Rattle.model.specs.Basics.{max_vertices, max_edges}
use Rattle.model.specs.Register.{Register, empty}
use Rattle.model.specs.Tables.{Tables, Counts, Stored, no_counts, held, tables_of, counts_of}
use Rattle.model.specs.Calls.{House}
use Rattle.nursery.specs.Licence.{houses, limit_of}

-- "Each call for a house lends all eight": tables eight times as long as those of one house, eight heads and eight shares. "The register gains a
-- 32-bit count of removals ..; it alone is not drawn from the pipes, 21 ignores it": it stands beside the head, so `Stored` does not
-- have it.
pub record Nursery : Type 0 where
  pub tables : Tables
  pub heads : List Counts
  pub removals : List ℕ
  pub shares : List ℕ

-- ---- the tables of one house

-- the n numbers of house h in a table, and others put in their place
unfoldable pub part : ℕ → ℕ → List ℕ → List ℕ
part n h xs = take n (drop (n * h) xs)

unfoldable pub put_part : ℕ → ℕ → List ℕ → List ℕ → List ℕ
put_part n h ys xs = take (n * h) xs ++ (ys ++ drop n (drop (n * h) xs))

unfoldable pub tables_in : ℕ → Tables → Tables
tables_in h t =
    record {
      degrees = part max_vertices h t.degrees;
      sides = part (2 * max_vertices) h t.sides;
      ends = part (2 * max_edges) h t.ends;
      lengths = part max_edges h t.lengths;
      volumes = part max_edges h t.volumes;
      labels = part max_vertices h t.labels;
    }

unfoldable pub put_tables : ℕ → Tables → Tables → Tables
put_tables h own t =
    record {
      degrees = put_part max_vertices h own.degrees t.degrees;
      sides = put_part (2 * max_vertices) h own.sides t.sides;
      ends = put_part (2 * max_edges) h own.ends t.ends;
      lengths = put_part max_edges h own.lengths t.lengths;
      volumes = put_part max_edges h own.volumes t.volumes;
      labels = put_part max_vertices h own.labels t.labels;
    }

-- ---- one house

-- what is stored for it
unfoldable pub stored_in : ℕ → Nursery → Stored
stored_in h n = record { tables = tables_in h n.tables; counts = get_or n.heads h no_counts }

unfoldable pub removals_in : ℕ → Nursery → ℕ
removals_in h n = get_or n.removals h 0

-- the register that is held; where 21 does not hold of the house, there is one
unfoldable pub register_in : ℕ → Nursery → Register
register_in h n = elim (held (stored_in h n)) [ some r ↦ r | none ↦ empty ]

-- the edges and the vertices of all houses, as their heads count them
unfoldable pub edges_in : Nursery → List ℕ
edges_in n = map (λ (c : Counts). c.edges) n.heads

unfoldable pub vertices_in : Nursery → List ℕ
vertices_in n = map (λ (c : Counts). c.vertices) n.heads

-- "A house may land a pipe if ..", as a limit on its edges
unfoldable pub limit_in : ℕ → Nursery → ℕ
limit_in h n = limit_of h n.shares (edges_in n)

-- the house as a call finds it
unfoldable pub house_in : ℕ → Nursery → House
house_in h n = record { register = register_in h n; limit = limit_in h n; removals = removals_in h n }

-- the house with another register and count of removals
unfoldable pub put_in : ℕ → Register → ℕ → Nursery → Nursery
put_in h r removals n =
    record {
      tables = put_tables h (tables_of r) n.tables;
      heads = set n.heads h (counts_of r);
      removals = set n.removals h removals;
      shares = n.shares;
    }

-- the shares of all houses: "all eight are set at once"
unfoldable pub with_shares : List ℕ → Nursery → Nursery
with_shares shares n = record { tables = n.tables; heads = n.heads; removals = n.removals; shares = shares }

-- ---- eight cleared houses, "a guaranteed share, 0 until set"

unfoldable pub no_houses : Nursery
no_houses =
    record {
      tables = record {
        degrees = replicate (houses * max_vertices) 0;
        sides = replicate (houses * (2 * max_vertices)) 0;
        ends = replicate (houses * (2 * max_edges)) 0;
        lengths = replicate (houses * max_edges) 0;
        volumes = replicate (houses * max_edges) 0;
        labels = replicate (houses * max_vertices) 0;
      };
      heads = replicate houses no_counts;
      removals = replicate houses 0;
      shares = replicate houses 0;
    }
