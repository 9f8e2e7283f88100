-- Document 02, S-5, of the calls for a house, whatever they are lent: a commit of a quote, while the houses are still the same, does what it
-- said; and a commit that is refused leaves them.
use mathlib.Core.Path.{◌≡◌, refl, sym, ap, ◌∙◌}
use mathlib.Core.Logic.{◌≢◌}
use Prim.Native.Nat.{ℕ, ◌+◌}
use native.Mathlib.Omega.{arith}
use mathlib.Core.List.{[], ◌∷◌, ◌++◌}
use mathlib.Core.Option.{Option, none, some}
use lib.ListN.{length, length-append}
use Rattle.model.specs.Graph.{Edge}
use Rattle.model.specs.Labels.{relabel_count}
use Rattle.model.specs.Register.{Landed, Quote, Register, commit, declines, landed, offers, quote, refused, with_edge}
use Rattle.model.specs.Queries.{committed, quoted, refuses}
use Rattle.model.specs.Tables.{Stored, cleared, counts_of, held, stored_of, tables_of}
use Rattle.model.specs.Calls.{House, answer, answers}
use Rattle.model.specs.Notions.{LandedAs, Reachable, with_edge_lem}
use Rattle.model.proofs.Registers.Accepted.{within_lands}
use Rattle.theory.proofs.Registers.AsQuoted.{landed_as, quoted_declines, quoted_lands}
use Rattle.theory.proofs.Registers.Kept.{kept_held}
use Rattle.theory.proofs.Registers.OnlyHeld.{only_held}
use Rattle.model.proofs.Registers.Quotes.{commit_lands}
use Rattle.theory.proofs.Registers.Reachable.{founded, kept}
use Rattle.nursery.specs.Licence.{houses}
use Rattle.nursery.specs.Nursery.{Nursery, house_in, put_in, register_in, stored_in}
use Rattle.nursery.specs.Calls.{Lent, Outcome, barred, commit_effect, commits, effect, grown_by, in_house, is_own, own_of, quotes, step}
use Rattle.nursery.proofs.Gate.{is_open, open_inside, put_same, register_reachable, step_barred, step_effect, stored_put}

-- ---- a refusal is no quote, and a quote is one

not_quoted : (x : ℕ) (q : Quote) → refuses x ≢ quoted q
not_quoted x q e = let z : ◌≡◌ {A = ℕ} 0 1 = cc in omega arith

quoted_is : (p q : Quote) → quoted p ≡ quoted q → p ≡ q
quoted_is p q e = cc

not_committed : (x : ℕ) → refuses x ≢ committed
not_committed x e = let z : ◌≡◌ {A = ℕ} 0 1 = cc in omega arith

edges_with : (r : Register) (e : Edge) → (with_edge r e).edges ≡ r.edges ++ (e ∷ [])
unfolding with_edge
edges_with r e = refl

-- ---- what a commit that landed leaves

-- what is stored before, of a register, and after; the quote's case is that of the register
pub record StoredAs (s s' : Stored) (q : Quote) : Type 0 where
  pub before : Register
  pub after : Register
  pub held_before : held s ≡ some before
  -- demand 2: what is left is what document 01 defines of the edges landed, the committed one among them
  pub reachable : Reachable after
  pub stored_after : s' ≡ stored_of after
  pub held_after : held s' ≡ some after
  pub edge_landed : after.edges ≡ before.edges ++ (q.asked ∷ [])
  pub as_quoted : LandedAs before q after
  -- so of the tables and the head: an edge more, and as many labels changed as were quoted
  pub edge_more : s'.counts.edges ≡ s.counts.edges + 1
  pub labels_differ : relabel_count s.tables.labels s'.tables.labels ≡ as_quoted.count
  pub total_more : s'.counts.relabellings ≡ s.counts.relabellings + as_quoted.count

stored_as : (s s' : Stored) (q : Quote) (limit : ℕ) (r r' : Register) → held s ≡ some r → s' ≡ stored_of r' → commit limit r q ≡ landed r' → StoredAs s s' q
unfolding stored_of counts_of tables_of
stored_as s s' q limit r r' h left e =
    record {
      before = r;
      after = r';
      held_before = h;
      reachable = k';
      stored_after = left;
      held_after = ap held left ∙ kept_held r' (kept r' k');
      edge_landed = edges;
      as_quoted = done;
      edge_more = ap (λ (t : Stored). t.counts.edges) left ∙ ap length edges ∙ length-append r.edges (q.asked ∷ [])
          ∙ ap (λ (t : Stored). t.counts.edges + 1) (sym was);
      labels_differ = ap (λ (t : Stored). relabel_count t.tables.labels s'.tables.labels) was
          ∙ ap (λ (t : Stored). relabel_count r.labels t.tables.labels) left ∙ done.relabels;
      total_more = ap (λ (t : Stored). t.counts.relabellings) left ∙ done.total_grows ∙ ap (λ (t : Stored). t.counts.relabellings + done.count) (sym was);
    }
  where
    k : Reachable r
    k = (only_held s r h).reachable

    was : s ≡ stored_of r
    was = (only_held s r h).stored_is

    k' : Reachable r'
    k' = with_edge_lem q.asked k (within_lands limit r q.asked r' (commit_lands limit r q r' e).1)

    done : LandedAs r q r'
    done = landed_as limit r (founded r k).proper q r' e

    edges : r'.edges ≡ r.edges ++ (q.asked ∷ [])
    edges = ap (λ (t : Register). t.edges) done.leaves ∙ edges_with r q.asked

module _ (h : ℕ) (l : Lent) (q : Quote) where
  abbrev n : Nursery
  n = l.nursery

  abbrev s : House
  s = house_in h n

  -- what the call comes to
  commits_as : barred (in_house h (commits q)) l ≡ none → (x : Landed) → commit s.limit s.register q ≡ x
      → let e = commit_effect s x in step (in_house h (commits q)) l
      ≡ record { lent = record { nursery = put_in h e.leaves e.removals n; scratch = cleared }; slice = e.slice; reply = e.reply }
  unfolding effect
  commits_as e x c = step_effect h (commits q) l (commit_effect s x) e (ap (commit_effect s) c)

  -- whatever is lent: a commit that lands does so as its quote said ..
  pub committed_as : length l.nursery.heads ≡ houses → (step (in_house h (commits q)) l).reply ≡ committed
      → StoredAs (stored_in h l.nursery) (stored_in h (step (in_house h (commits q)) l).lent.nursery) q
  unfolding commit_effect own_of grown_by is_own house_in
  committed_as heads w = go (barred (in_house h (commits q)) l) refl
    where
      Goal : Type 0
      Goal = StoredAs (stored_in h l.nursery) (stored_in h (step (in_house h (commits q)) l).lent.nursery) q

      by_commit : barred (in_house h (commits q)) l ≡ none → (x : Landed) → commit s.limit s.register q ≡ x → Goal
      by_commit e (refused x) c = absurd (not_committed x (sym (ap (λ (p : Outcome). p.reply) (commits_as e (refused x) c)) ∙ w))
      by_commit e (landed r) c =
          let o = is_open (in_house h (commits q)) l e in
          let i = open_inside h (commits q) l o in
          let k = with_edge_lem q.asked (register_reachable h n) (within_lands s.limit s.register q.asked r (commit_lands s.limit s.register q r c).1) in
          stored_as (stored_in h n) _ q s.limit (register_in h n) r (o.held_all h i refl)
          (ap (λ (p : Outcome). stored_in h p.lent.nursery) (commits_as e (landed r) c) ∙ stored_put h r s.removals n i heads o.sized k) c

      go : (x : Option ℕ) → barred (in_house h (commits q)) l ≡ x → Goal
      go (some x) e = absurd (not_committed x (sym (ap (λ (p : Outcome). p.reply) (step_barred (in_house h (commits q)) l x e)) ∙ w))
      go none e = by_commit e (commit s.limit s.register q) refl

  -- .. and one that does not leaves the houses: "32 .., nothing written"
  pub refused_leaves : (step (in_house h (commits q)) l).reply ≢ committed → (step (in_house h (commits q)) l).lent.nursery ≡ l.nursery
  unfolding commit_effect own_of grown_by is_own house_in
  refused_leaves w = go (barred (in_house h (commits q)) l) refl
    where
      Goal : Type 0
      Goal = (step (in_house h (commits q)) l).lent.nursery ≡ l.nursery

      by_commit : barred (in_house h (commits q)) l ≡ none → (x : Landed) → commit s.limit s.register q ≡ x → Goal
      by_commit e (landed r) c = absurd (w (ap (λ (p : Outcome). p.reply) (commits_as e (landed r) c)))
      by_commit e (refused x) c =
          let o = is_open (in_house h (commits q)) l e in
          ap (λ (p : Outcome). p.lent.nursery) (commits_as e (refused x) c) ∙ put_same h n (register_in h n) (o.held_all h (open_inside h (commits q) l o) refl)

      go : (x : Option ℕ) → barred (in_house h (commits q)) l ≡ x → Goal
      go (some x) e = ap (λ (p : Outcome). p.lent.nursery) (step_barred (in_house h (commits q)) l x e)
      go none e = by_commit e (commit s.limit s.register q) refl

-- ---- a quote, and then its commit

module _ (h : ℕ) (l : Lent) (e : Edge) (q : Quote) (w : (step (in_house h (quotes e)) l).reply ≡ quoted q) where
  -- the quote was made of what the house holds
  quote_of_lem : quote (house_in h l.nursery).limit (house_in h l.nursery).register e ≡ q
  unfolding effect answer answers
  quote_of_lem = go (barred (in_house h (quotes e)) l) refl
    where
      go : (x : Option ℕ) → barred (in_house h (quotes e)) l ≡ x → quote (house_in h l.nursery).limit (house_in h l.nursery).register e ≡ q
      go (some x) b = absurd (not_quoted x q (sym (ap (λ (p : Outcome). p.reply) (step_barred (in_house h (quotes e)) l x b)) ∙ w))
      go none b = quoted_is _ q (sym (ap (λ (p : Outcome). p.reply) (step_effect h (quotes e) l _ b refl)) ∙ w)

  asked_is : q.asked ≡ e
  unfolding quote
  asked_is = ap (λ (p : Quote). p.asked) (sym quote_of_lem)

  -- "does exactly that when a quote made now would be the same": with the houses as the quote left them, or the same again
  module _ (k : Lent) (same : k.nursery ≡ l.nursery) (free : barred (in_house h (commits q)) k ≡ none) where
    abbrev s' : House
    s' = house_in h k.nursery

    made : q ≡ quote s'.limit s'.register q.asked
    made =
        sym quote_of_lem ∙ ap (λ (m : Nursery). quote (house_in h m).limit (house_in h m).register e) (sym same)
        ∙ ap (quote s'.limit s'.register) (sym asked_is)

    pub offered_lands : (c m : ℕ) → q.terms ≡ offers c m → (step (in_house h (commits q)) k).reply ≡ committed
    unfolding commit_effect
    offered_lands c m t =
        ap (λ (p : Outcome). p.reply) (commits_as h k q free (landed (with_edge s'.register q.asked)) (quoted_lands s'.limit s'.register q c m made t))

    pub declined_refuses : (x : ℕ) → q.terms ≡ declines x → (step (in_house h (commits q)) k).reply ≡ refuses x
    unfolding commit_effect
    declined_refuses x t =
        ap (λ (p : Outcome). p.reply) (commits_as h k q free (refused x) (quoted_declines s'.limit s'.register q x made t))
