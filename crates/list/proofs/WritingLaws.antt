-- The list written part by part, its length, and that what is written over the tables of a register is its list.
use mathlib.Core.Path.{◌≡◌, refl, sym, ap, ◌∙◌}
use Prim.Native.Nat.{ℕ, ◌+◌, ◌*◌}
use native.Mathlib.Omega.{arith}
use mathlib.Core.List.{List, [], ◌∷◌, ◌++◌, append-nil}
use lib.ListN.{length, get_or, replicate, length-map}
use Rattle.model.specs.Basics.{up_to}
use Rattle.model.specs.Register.{Register}
use Rattle.model.specs.Format.{edge_bytes, edge_records, header, list_of, written}
use Rattle.model.specs.Tables.{Tables, Counts, counts_of, stored_edge, stored_edges, tables_of}
use Rattle.model.proofs.Basics.Lists.{length_up_to}
use Rattle.model.proofs.Registers.ReadBack.{edges_read}
use Rattle.theory.proofs.Registers.Written.{list_long}
use Rattle.tables.specs.Meaning.{tables}
use Rattle.text.specs.Pages.{Page, write}
use Rattle.text.proofs.PageLaws.{write_two}
use Rattle.text.proofs.Pieces.{Pieces}
use Rattle.list.specs.Writing.{list_in, records_in}

module _ (ends lengths volumes : List ℕ) where
  -- ---- the edges, one after the other

  -- the records of edges, one behind the other
  pub edge_pieces : Pieces (records_in ends lengths volumes)
  unfolding records_in edge_records
  edge_pieces =
      record {
        none = refl;
        first = λ d ds. ap (λ (bs : List ℕ). bs ++ records_in ends lengths volumes ds) (sym (append-nil (edge_bytes (stored_edge (tables [] [] ends lengths volumes []) d))));
      }

  -- the record of one edge, by the numbers read from the tables
  pub one_edge_lem : (d a b l v : ℕ) (p q : Page) → a ≡ get_or ends (2 * d) 0 → b ≡ get_or ends (2 * d + 1) 0 → l ≡ get_or lengths d 0 → v ≡ get_or volumes d 0
      → q ≡ write (edge_bytes (record { first = a; second = b; len = l; volume = v })) p → q ≡ write (records_in ends lengths volumes (d ∷ [])) p
  unfolding records_in edge_records stored_edge
  one_edge_lem d a b l v p q e f g h w = rw append-nil (rw (e, f, g, h) at w)

  module _ (c : Counts) where
    -- ---- the list, part by part

    -- header, vertices and edges are the list
    pub list_parts : (p q r s : Page) → q ≡ write header p → r ≡ write (replicate c.vertices 0x46) q
        → s ≡ write (records_in ends lengths volumes (up_to c.edges)) r → s ≡ write (list_in ends lengths volumes c) p
    unfolding list_in
    list_parts p q r s e f g = write_two _ _ p q s e (write_two _ _ q r s f g)

    -- it is the list of the tables' own vertices and edges, whatever the other tables hold
    list_is : (degrees sides labels : List ℕ) → list_in ends lengths volumes c ≡ list_of c.vertices (stored_edges (tables degrees sides ends lengths volumes labels) c.edges)
    unfolding list_in records_in list_of stored_edges stored_edge
    list_is degrees sides labels = refl

    length_edges : (t : Tables) (n : ℕ) → length (stored_edges t n) ≡ n
    unfolding stored_edges
    length_edges t n = length-map (up_to n) (stored_edge t) ∙ length_up_to n

    -- it has 5 bytes, one for each vertex and 13 for each edge
    pub list_bytes : length (list_in ends lengths volumes c) ≡ 5 + c.vertices + 13 * c.edges
    list_bytes =
        let t = tables [] [] ends lengths volumes [] in
        ap length (list_is [] [] []) ∙ omega (arith, list_long c.vertices (stored_edges t c.edges), length_edges t c.edges)

-- ---- of a register

list_of_lem : (r : Register) → list_of (counts_of r).vertices (stored_edges (tables_of r) (counts_of r).edges) ≡ written r
unfolding counts_of written
list_of_lem r = ap (list_of r.vertices) (edges_read r)

-- over the tables of a register it is the list that is written of it
pub list_written : (r : Register) (t : Tables) (c : Counts) → t ≡ tables_of r → c ≡ counts_of r → list_in t.ends t.lengths t.volumes c ≡ written r
list_written r t c e f = list_is t.ends t.lengths t.volumes c t.degrees t.sides t.labels ∙ rw (e, f) (list_of_lem r)
