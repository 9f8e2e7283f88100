-- A list is landed on a register, and on tables by whatever an edge does there. If the tables follow the register at every record, they follow
-- it to the end of the list, which stops at the same record for the same refusal.
use Rattle.std.specs.Prelude.{if◌then◌else◌}
use mathlib.Core.Path.{◌≡◌, refl, sym, ◌∙◌}
use Prim.Native.Nat.{ℕ, zero, suc, ◌+◌}
use mathlib.Core.Bool.{Bool, true, false, not}
use mathlib.Core.List.{List, [], ◌∷◌}
use mathlib.Core.Option.{Option, none, some}
use lib.ListN.{length, drop}
use lib.Seq.{drop-drop}
use lib.Dec.{eqb, ltb}
use Rattle.model.specs.Graph.{Edge}
use Rattle.model.specs.Register.{Landed, Register, land_edge_within, land_vertex, landed, refused}
use Rattle.model.specs.Format.{Read, Record, bad, edge, edge_body, first_record, header_refusal, land_list, land_records, u16_at, u32_at, version_of, vertex, volume_in}
use Rattle.model.specs.Tables.{Counts, Tables}
use Rattle.model.specs.Notions.{Reachable, with_edge_lem, with_vertex_lem}
use Rattle.list.specs.Reading.{Place, bad_record, edge_to, ends, header_at, place, record_at, record_of, vertex_to}
use Rattle.insertion.specs.Insertion.{AnswerIn, done, land_vertex_in, refused_in}
use Rattle.landing.specs.Records.{EdgeLanding, ReadingIn, land_list_by, land_record_by, land_records_by}
use Rattle.model.proofs.Registers.Accepted.{within_lands}

-- ---- which record stands at a place, and where the bytes behind it begin

abbrev Behind : ℕ → List ℕ → Record → Type 0
Behind version bytes (vertex rest) = bytes ≡ rest
Behind version bytes (edge e rest) = drop (edge_body version) bytes ≡ rest
Behind version bytes (bad x) = Unit {0}

behind : (version kind : ℕ) (bytes : List ℕ) → Behind version bytes (first_record version kind bytes)
unfolding first_record
behind version kind bytes = go (eqb kind 0x46) (not (eqb kind 0x50)) (ltb (length bytes) (edge_body version))
  where
    e : Edge
    e = record { first = u16_at bytes 0; second = u16_at bytes 2; len = u32_at bytes 4; volume = volume_in version bytes }

    go : (a b c : Bool) → Behind version bytes (if a then vertex bytes else if b then bad 4 else if c then bad 3 else edge e (drop (edge_body version) bytes))
    go true b c = refl
    go false true c = tt
    go false false true = tt
    go false false false = refl

-- the places behind a vertex, and behind an edge
abbrev past_vertex : Place → Place
past_vertex o = place (o.at + 1) o.version

abbrev past_edge : Place → Place
past_edge o = place (o.at + 1 + edge_body o.version) o.version

module _ (bs : List ℕ) (o : Place) where
  at_end : drop o.at bs ≡ [] → record_at bs o ≡ ends
  unfolding record_at record_of
  at_end p = rw p

  module _ (kind : ℕ) (bytes : List ℕ) (p : drop o.at bs ≡ kind ∷ bytes) where
    at_vertex : (rest : List ℕ) → first_record o.version kind bytes ≡ vertex rest → (record_at bs o ≡ vertex_to (past_vertex o)) × (drop (o.at + 1) bs ≡ rest)
    unfolding record_at record_of
    at_vertex rest q = (rw (p, q, record_of), sym (drop-drop 1 o.at bs) ∙ rw p (rw q at (behind o.version kind bytes)))

    at_edge : (e : Edge) (rest : List ℕ) → first_record o.version kind bytes ≡ edge e rest
        → (record_at bs o ≡ edge_to e (past_edge o)) × (drop (o.at + 1 + edge_body o.version) bs ≡ rest)
    unfolding record_at record_of
    at_edge e rest q =
        let n = edge_body o.version in
        let one : drop (o.at + 1) bs ≡ bytes = sym (drop-drop 1 o.at bs) ∙ rw p in
        (rw (p, q, record_of), sym (drop-drop n (o.at + 1) bs) ∙ rw one (rw q at (behind o.version kind bytes)))

    at_bad : (x : ℕ) → first_record o.version kind bytes ≡ bad x → record_at bs o ≡ bad_record x
    unfolding record_at record_of
    at_bad x q = rw (p, q, record_of)

-- ---- tables that follow a register

-- `Shown r rings t c`: tables t and counts c show what they have to of register r, in which a ring may stand or not
module _ (Shown : Register → Bool → Tables → Counts → Type 0) where
  -- the tables after a record that landed in the register, and the answer there
  pub record After (r : Register) (t : Tables) (a : AnswerIn) : Type 0 where
    pub counts : Counts
    pub rings : Bool
    pub answers : a ≡ done counts rings
    pub shows : Shown r rings t counts

  -- a record lands on both sides, or is refused on both, and then the tables show what they showed
  abbrev pub Follows : Register → Bool → Counts → Landed → Tables → AnswerIn → Type 0
  Follows r rings c (landed r') t a = After r' t a
  Follows r rings c (refused x) t a = (a ≡ refused_in x) × Shown r rings t c

  -- a list stops on both sides alike, and the tables show the register that it leaves
  pub record Together (d : ReadingIn) (m : Read) : Type 0 where
    pub stops : d.stop ≡ m.stop
    pub rings : Bool
    pub shows : Shown m.register rings d.tables d.counts

  module _ (land : EdgeLanding) (limit : ℕ)
      (vertex_follows : (r : Register) (rings : Bool) (t : Tables) (c : Counts) → Reachable r → Shown r rings t c → Follows r rings c (land_vertex r) t (land_vertex_in c rings))
      (edge_follows : (r : Register) (rings : Bool) (t : Tables) (c : Counts) (e : Edge) → Reachable r → Shown r rings t c
      → Follows r rings c (land_edge_within limit r e) (land t c limit rings e).tables (land t c limit rings e).answer) where
    records_follow : (bs : List ℕ) (n k : ℕ) (r : Register) (rings : Bool) (t : Tables) (c : Counts) (o : Place) → Reachable r → Shown r rings t c
        → Together (land_records_by land bs n k t c limit rings o) (land_records limit o.version n k r (drop o.at bs))
    unfolding land_records_by land_record_by land_records
    records_follow bs zero k r rings t c o g s = record { stops = refl; rings = rings; shows = s }
    records_follow bs (suc n) k r rings t c o g s = go (drop o.at bs) refl (λ r' rings' t' c' j g' s'. records_follow bs n (k + 1) r' rings' t' c' j g' s')
      where
        Goal : Type 0
        Goal = Together (land_records_by land bs (suc n) k t c limit rings o) (land_records limit o.version (suc n) k r (drop o.at bs))

        Rest : Type 0
        Rest = (r' : Register) (rings' : Bool) (t' : Tables) (c' : Counts) (j : Place) → Reachable r' → Shown r' rings' t' c'
            → Together (land_records_by land bs n (k + 1) t' c' limit rings' j) (land_records limit j.version n (k + 1) r' (drop j.at bs))

        on_vertex : (kind : ℕ) (bytes rest : List ℕ) → drop o.at bs ≡ kind ∷ bytes → first_record o.version kind bytes ≡ vertex rest
            → (l : Landed) → land_vertex r ≡ l → Follows r rings c l t (land_vertex_in c rings) → Rest → Goal
        on_vertex kind bytes rest p q (landed r') f a ih =
            let w = at_vertex bs o kind bytes p rest q in
            rw (w.0, a.answers, land_records_by, w.0, p, q, f, land_records, ← w.1) (ih r' a.rings t a.counts (past_vertex o) (with_vertex_lem g f) a.shows)
        on_vertex kind bytes rest p q (refused x) f a ih =
            let w = at_vertex bs o kind bytes p rest q in
            rw (w.0, a.0, land_records_by, w.0, p, q, f, land_records) (record { stops = refl; rings = rings; shows = a.1 })

        on_edge : (kind : ℕ) (bytes : List ℕ) (e : Edge) (rest : List ℕ) → drop o.at bs ≡ kind ∷ bytes → first_record o.version kind bytes ≡ edge e rest
            → (l : Landed) → land_edge_within limit r e ≡ l → Follows r rings c l (land t c limit rings e).tables (land t c limit rings e).answer → Rest → Goal
        on_edge kind bytes e rest p q (landed r') f a ih =
            let w = at_edge bs o kind bytes p e rest q in
            rw (w.0, a.answers, land_records_by, w.0, p, q, f, land_records, ← w.1)
            (ih r' a.rings (land t c limit rings e).tables a.counts (past_edge o) (with_edge_lem e g (within_lands limit r e r' f)) a.shows)
        on_edge kind bytes e rest p q (refused x) f a ih =
            let w = at_edge bs o kind bytes p e rest q in
            rw (w.0, a.0, land_records_by, w.0, p, q, f, land_records) (record { stops = refl; rings = rings; shows = a.1 })

        on_record : (kind : ℕ) (bytes : List ℕ) → drop o.at bs ≡ kind ∷ bytes → (d : Record) → first_record o.version kind bytes ≡ d → Rest → Goal
        on_record kind bytes p (vertex rest) q ih = on_vertex kind bytes rest p q (land_vertex r) refl (vertex_follows r rings t c g s) ih
        on_record kind bytes p (edge e rest) q ih = on_edge kind bytes e rest p q (land_edge_within limit r e) refl (edge_follows r rings t c e g s) ih
        on_record kind bytes p (bad x) q ih =
            rw (at_bad bs o kind bytes p x q, land_records_by, at_bad bs o kind bytes p x q, p, q, land_records) (record { stops = refl; rings = rings; shows = s })

        go : (l : List ℕ) → drop o.at bs ≡ l → Rest → Goal
        go [] p ih = rw (at_end bs o p, land_records_by, at_end bs o p, p, land_records) (record { stops = refl; rings = rings; shows = s })
        go (kind ∷ bytes) p ih = on_record kind bytes p (first_record o.version kind bytes) refl ih

    -- so does a whole list
    pub list_follows : (r : Register) (t : Tables) (c : Counts) (bs : List ℕ) → Reachable r → Shown r (ltb 0 c.edges) t c
        → Together (land_list_by land t c limit bs) (land_list limit r bs)
    unfolding land_list_by land_list header_at
    list_follows r t c bs g s = go (header_refusal bs) refl
      where
        go : (o : Option ℕ) → header_refusal bs ≡ o → Together (land_list_by land t c limit bs) (land_list limit r bs)
        go (some x) e = rw (e, land_list_by, land_list) (record { stops = refl; rings = ltb 0 c.edges; shows = s })
        go none e = rw (e, land_list_by, land_list) (records_follow bs (length bs) 0 r (ltb 0 c.edges) t c (place 5 (version_of bs)) g s)
