-- The start of a step whose cause is a give-back of the present epoch: it is stored where it is the first of its
-- number, ends its call, and its host learns that it is known.
use Rattle.std.proofs.Common.{◌≡◌, ◌≤◌, ◌<◌, ◌==◌, ◌&&◌, ◌||◌, not, ℕ, Bool, true, false, if◌then◌else◌}
use Rattle.std.proofs.Common.{List, [], ◌∷◌, ◌++◌, Option, None, Some, length, inl, inr, refl, sym, ◌∙◌, ap, subst}
use Rattle.std.proofs.Common.{arith, eq-eqb, eqb-true, zero, suc, ◌/◌}
use Rattle.std.specs.Prelude.{is_none, is_some, map, nat_lt}
use Rattle.std.specs.List.{filter, find, list_all}
use Rattle.std.specs.Option.{option_map_or}
use Rattle.std.proofs.lemmas.Bool.{and_parts, cases_Bool, false≢true}
use Rattle.std.proofs.lemmas.Bool.Decides.{nat_tests}
use Rattle.base_types.specs.Lists.{changed_at}
use Rattle.base_types.specs.declared.ids.Fid.{Fid}
use Rattle.base_types.specs.declared.ids.FilesetId.{FilesetId}
use Rattle.base_types.specs.declared.ids.HostId.{HostId}
use Rattle.base_types.specs.declared.ids.ServerId.{ServerId}
use Rattle.tree_answers.specs.declared.tree.Tree.{Tree}
use Rattle.tree_calls.specs.declared.part.Piece.{Piece}
use Rattle.tree_calls.specs.declared.part.Status.{Status}
use Rattle.tree_calls.specs.declared.reply.Reply.TheVariants.{Ok as Fine}
use Rattle.tree_calls.specs.declared.roster.Roster.{Roster}
use Rattle.tree_filesets.specs.Updates.{updated}
use Rattle.tree_filesets.specs.declared.fileset.Fileset.{Fileset}
use Rattle.tree_objects.specs.declared.content.Anode.{Anode}
use Rattle.token_manager.specs.Managers.{Manager}
use Rattle.token_types.specs.declared.token.Token.{Token}
use Rattle.message_types.specs.Soundness.{IsBody, IsGiveBack, IsHost}
use Rattle.message_types.specs.declared.giving.AppliedGive.{AppliedGive}
use Rattle.message_types.specs.declared.giving.Ends.{Ends}
use Rattle.message_types.specs.declared.giving.Give.{Give}
use Rattle.message_types.specs.declared.message.Body.{Body}
use Rattle.message_types.specs.declared.message.Body.TheVariants.{Bye, Change, Done, Down, GiveBack, Gone, Grant}
use Rattle.message_types.specs.declared.message.Body.TheVariants.{Hello, Reclaim, Reclaimed, Restarted, Revoke}
use Rattle.message_types.specs.declared.message.Message.{Message}
use Rattle.server_decides.specs.Changes.{are_home, is_home}
use Rattle.run_rules.specs.Doings.{Doing, Here, IsApplied, IsLive, TakenNow, TakesOf, deciding, epoch}
use Rattle.run_rules.specs.Doings.Doing.{Took}
use Rattle.run_rules.specs.Kept.{filesets_through, pieces_in, pieces_of, takes_gifts as takes_by_rule, tree_given}
use Rattle.run_rules.specs.Past.{In}
use Rattle.run_rules.specs.ServerDecides.{ended_by, span_of, stored_of}
use Rattle.run_rules.specs.Tokens.{number_of}
use Rattle.run_rules.specs.Wants.{body_of}
use Rattle.run_rules.specs.declared.applied.Applied.{Applied}
use Rattle.run_rules.specs.declared.applied.Applied.TheVariants.{Done as IsDone, Replied as EndsCall, Stored}
use Rattle.run_rules.specs.declared.applied.Request.{Request}
use Rattle.run_rules.specs.declared.applied.Request.TheVariants.{Change as Changes, Fetch as Asks}
use Rattle.run_rules.specs.declared.applied.Written.{Written}
use Rattle.run_rules.specs.declared.step.Cause.TheVariants.{Message as Came}
use Rattle.run_rules.specs.declared.step.Step.{Step}
use Rattle.server_decides.specs.StoreKeeping.{StandsFor}
use Rattle.server_decides.specs.Telling.{may_take}
use Rattle.server_decides.proofs.Tells.{gifts_are_told}
use Rattle.store_acts.specs.Acts.{act_done}
use Rattle.store_memory.specs.Reading.{status_told}
use Rattle.store_state.specs.declared.state.StoreState.{StoreState}
use Rattle.server_decides.specs.Acting.{GivesBelow, KeepsSo}
use Rattle.server_decides.proofs.Acting.{drafts_stand}
use Rattle.server_decides.proofs.Numbers.{numbers_stay}
use Rattle.server_decides.proofs.Repeating.{acts_are_steady}
use Rattle.server_decides.specs.Acts.{IsRepeatable, giving}
use Rattle.server_tables.specs.Claims.{taking_one, ups_of}
use Rattle.server_tables.specs.Gives.{AreLast, given, is_for_give, last_give}
use Rattle.server_tables.specs.Listing.{has_host}
use Rattle.server_tables.specs.Places.{is_of}
use Rattle.server_tables.specs.Standing.{AnsweredStand, Stands, tokens_of}
use Rattle.server_tables.specs.declared.recovering.Answered.{Answered}
use Rattle.server_tables.specs.declared.recovering.Recovering.{Recovering}
use Rattle.server_tables.specs.declared.tables.LastGive.{LastGive}
use Rattle.server_tables.specs.declared.tables.Tables.{Tables}
use Rattle.server_tables.proofs.Answering.{same_fileset}
use Rattle.server_tables.proofs.Early.{IsWordOf}
use Rattle.server_tables.proofs.Fetching.{same_host}
use Rattle.server_tables.proofs.Freeing.{is_new, last_found, last_given, stands_given, was_taken}
use Rattle.server_tables.proofs.Greeting.{in_end, in_front}
use Rattle.server_tables.proofs.Judged.{found_first, here_from, here_to}
use Rattle.server_tables.proofs.Quiet.{IsBlank}
use Rattle.server_tables.proofs.Still.{HostsStill, IsStill, answered_still, live_still, reclaimed_back, still}
use Rattle.server_tables.proofs.Giving.{IsWithout}
use Rattle.store_state.specs.Rows.{itself}
use Rattle.server_tables.proofs.Without.{all_returned as returns_all, returning, to_filter}
use Rattle.server_decides.specs.Drafts.{no_draft, saying, word}
use Rattle.server_decides.specs.Messages.{IsFor}
use Rattle.server_decides.specs.Taking.{ending, freed, give_applied, give_draft, give_state, give_tables, has_some}
use Rattle.server_decides.specs.Taking.{is_first, keeping, noted, takes_gifts as takes_told}
use Rattle.server_decides.specs.Draft.{Draft}
use Rattle.server_decides.specs.Running.{making}
use Rattle.server_decides.specs.Serving.{IsServed}
use Rattle.server_exporter.specs.Machines.{IsAt, Keeps}
use Rattle.server_exporter.specs.declared.exporter.Exporter.{Exporter}
use Rattle.server_exporter.proofs.Doings.{few_hosts}
use Rattle.server_exporter.proofs.Epochs.{give_epoch}
use Rattle.server_exporter.proofs.Onsets.{HasBegun, SaysAtOnce, SaysTo}
use Rattle.server_exporter.proofs.Openings.{AreCaused, IsOnset, NoneNew, begins, none_said, one_said}
use Rattle.server_exporter.proofs.Replies.{heard_m, taken_m, was_m}
use Rattle.server_exporter.proofs.Starts.{give_still, returned_is, same_took}

-- # Whether it is stored

-- by what the store tells, and by the rules
takes_same : (o : Option Status) → option_map_or may_take o false ≡ takes_told o
takes_same None = refl
takes_same (Some s) = by s.read_only s.dir
  where
    by : (a b : Bool) → (not a && not b) ≡ (not b && not a)
    by true true = refl
    by true false = refl
    by false true = refl
    by false false = refl

lt_is : (n : ℕ) → nat_lt 0 n ≡ not (n == 0)
lt_is n = elim (cases_Bool (nat_lt 0 n)) [
  | inl p ↦ elim (cases_Bool (n == 0)) [
    | inl e ↦ absurd (let a : 0 < n = grind (arith, nat_tests, p) in let b = eqb-true n 0 e in omega (arith, a, b))
    | inr e ↦ p ∙ sym (ap not e)
  ]
  | inr p ↦ elim (cases_Bool (n == 0)) [
    | inl e ↦ p ∙ sym (ap not e)
    | inr e ↦ absurd (let a : n ≤ 0 = grind (arith, nat_tests, p) in let b : n ≡ 0 = omega (arith, a) in
        false≢true (sym e ∙ eq-eqb n 0 b))
  ]
]

has_same : (n : ℕ) (o : Option ℕ) → (nat_lt 0 n || is_some o) ≡ not ((n == 0) && is_none o)
has_same n o =
    subst (λ (k : Bool). (k || is_some o) ≡ not ((n == 0) && is_none o)) (sym (lt_is n)) (plain (n == 0) o)
  where
    plain : (b : Bool) (o : Option ℕ) → (not b || is_some o) ≡ not (b && is_none o)
    plain true None = refl
    plain true (Some k) = refl
    plain false None = refl
    plain false (Some k) = refl

turned : (a b : Bool) → (a && b) ≡ (b && a)
turned true true = refl
turned true false = refl
turned false true = refl
turned false false = refl

stored_same : (tree : Tree) (st : StoreState) (g : Give) → StandsFor tree st
    → (takes_by_rule tree g.fid && (nat_lt 0 (length g.pieces) || is_some g.length))
    ≡ (has_some g && takes_told (status_told st g.fid))
stored_same tree st g k =
    ap (λ (b : Bool). b && (nat_lt 0 (length g.pieces) || is_some g.length))
    (gifts_are_told tree st g.fid k ∙ takes_same (status_told st g.fid))
    ∙ ap (λ (b : Bool). takes_told (status_told st g.fid) && b) (has_same (length g.pieces) g.length)
    ∙ turned (takes_told (status_told st g.fid)) (has_some g)

-- # Filesets stay where they were made

all_changed : (xs : List Fileset) (at : ℕ) (f : Fileset → Fileset) → ((x : Fileset) → is_home (f x) ≡ is_home x)
    → list_all is_home (changed_at xs at f) ≡ list_all is_home xs
all_changed [] at f k = refl
all_changed (x ∷ xs) zero f k = ap (λ (b : Bool). b && list_all is_home xs) (k x)
all_changed (x ∷ xs) (suc at) f k = ap (λ (b : Bool). is_home x && b) (all_changed xs at f k)

home_updated : (x : Fileset) (anode : ℕ) (change : Anode → Anode) → is_home (updated x anode change) ≡ is_home x
unfolding updated
home_updated x anode change = refl

homes_given : (tree : Tree) (fid : Fid) (pieces : List Piece) (len : Option ℕ) → are_home tree ≡ true
    → are_home (tree_given tree fid pieces len) ≡ true
unfolding tree_given
homes_given tree fid pieces len e = elim (cases_Bool (takes_by_rule tree fid)) [
  | inl t ↦ rw t (all_changed tree.filesets _ _ (λ x. home_updated x fid.anode _) ∙ e)
  | inr t ↦ rw t e
]

-- # The last give-backs

-- none has a lower number once one of a higher number came
module _ (gives : List LastGive) (h : HostId) (n : AppliedGive) (single : AreLast gives)
    (after : AreLast (given gives h n)) where
  abbrev entry : LastGive
  entry = record { host = h; give = n }

  abbrev rest : List LastGive
  rest = filter (λ (l : LastGive). not (is_for_give h n.fileset l)) gives

  it_is : (k : HostId) (f : FilesetId) (l : LastGive) → is_for_give k f l ≡ true → (l.host ≡ k) × (l.give.fileset ≡ f)
  it_is k f l e = let p = and_parts (l.host.0 == k.0) (l.give.fileset.0 == f.0) e in
      (same_host l.host k p.0, same_fileset l.give.fileset f p.1)

  -- its own is the last
  pub reaches : n.number ≤ last_give (given gives h n) h n.fileset
  reaches = let e = last_found (given gives h n) h n.fileset after entry (in_end entry rest) refl refl in
      omega (arith, e)

  pub rises : last_give gives h n.fileset < n.number → (k : HostId) (f : FilesetId)
      → last_give gives k f ≤ last_give (given gives h n) k f
  rises less k f = go (find (is_for_give k f) gives) refl
    where
      go : (o : Option LastGive) → find (is_for_give k f) gives ≡ o
          → last_give gives k f ≤ last_give (given gives h n) k f
      go None e = let z : last_give gives k f ≡ 0 =
          ap (λ (o : Option LastGive). option_map_or (λ (l : LastGive). l.give.number) o 0) e in omega (arith, z)
      go (Some l) e =
          let found = found_first (is_for_give k f) gives l e in
          let its = it_is k f l found.1 in
          let was = last_found gives k f single l found.0 its.0 its.1 in
          elim (cases_Bool (is_for_give h n.fileset l)) [
            | inl b ↦ (let own = it_is h n.fileset l b in
                let first = last_found gives h n.fileset single l found.0 own.0 own.1 in
                let now = last_found (given gives h n) k f after entry (in_end entry rest) (sym own.0 ∙ its.0)
                (sym own.1 ∙ its.1) in
                omega (arith, was, first, now, less))
            | inr b ↦ (let there = in_front l rest (entry ∷ [])
                (to_filter (λ (z : LastGive). not (is_for_give h n.fileset z)) l gives found.0 (ap not b)) in
                let now = last_found (given gives h n) k f after l there its.0 its.1 in
                omega (arith, was, now))
          ]

below_more : (last next : HostId → FilesetId → ℕ) (st : StoreState) → ((h : HostId) (i : FilesetId)
    → last h i ≤ next h i) → GivesBelow last st → GivesBelow next st
below_more last next st more b = record {
  own = λ h. (let p = b.own h in let q = more h itself in omega (arith, p, q));
  held = λ slot holding is h. (let p = b.held slot holding is h in let q = more h holding.fileset.id in
      omega (arith, p, q));
}

-- # A give-back of a live host, of this epoch

its_give : (a b : Give) → GiveBack a ≡ GiveBack b → a ≡ b
its_give a b e = cc

its_number : (a b : AppliedGive) → Gone a ≡ Gone b → a ≡ b
its_number a b e = cc

not_asked : (g : Give) (r : Request) → GiveBack g ≡ body_of r → ⊥
not_asked g (Asks f) e = cc
not_asked g (Changes c) e = cc

gone_blank : (n : AppliedGive) → IsBlank (Gone n)
gone_blank n = record { grant = λ g e. cc; done = λ d e. cc; revoke = λ r e. cc }

module _ (tree : Tree) (past : List Doing) (x : Exporter) (z : IsAt past tree x) (m : Message) (g : Give)
    (is : m.body ≡ GiveBack g) (live : IsLive past m.host) (now : m.epoch ≡ epoch past) (unmoved : m.moves ≡ 0)
    (of : IsFor x.tables.server x.tables.roster m) (st : StoreState) (k : Keeps x.tables tree st)
    (served : IsServed x.tables st)
    (one : (u v : Token) → In u (tokens_of x.tables.tokens.grants) → In v (tokens_of x.tables.tokens.grants)
    → u.id ≡ v.id → u ≡ v) where
  abbrev t : Tables
  t = x.tables

  abbrev h : HostId
  h = m.host

  abbrev server : ServerId
  server = t.server

  abbrev took : Doing
  took = Took m.host m.epoch m.moves m.body

  its : IsGiveBack t.roster m g
  its = subst (IsBody t.roster m) is of.sound.body

  is_home_here : is_of server g.fid.fileset ≡ true
  is_home_here = eq-eqb (g.fid.fileset.0 / 65536) server.0
      (its.home unmoved ∙ ap (λ (v : ServerId). v.0) of.own)

  here : Here server past g.fid.fileset m.moves
  here = here_to server past g.fid.fileset m.moves z.tables.slots unmoved is_home_here

  some : 0 < g.number
  some = let p = its.number in omega (arith, p)

  -- # What is made of it

  abbrev first : Bool
  first = is_first t h g

  abbrev kept : Bool
  kept = takes_by_rule tree g.fid && (nat_lt 0 (length g.pieces) || is_some g.length)

  abbrev stored : Applied
  stored = Stored h g.fid (map span_of g.pieces) g.length

  abbrev ends_by : Option Ends → List Applied
  ends_by o = option_map_or
      (λ ends. EndsCall (record { host = h; k = ends.k; call = ends.call; reply = Fine; first = false }) ∷ []) o []

  abbrev applied_by : Bool → Bool → Option Ends → List Applied
  applied_by b c o = if b then (if c then stored ∷ [] else []) ++ ends_by o else []

  abbrev base : List Applied
  base = applied_by first kept g.ends

  abbrev told : Message
  told = word t h (Gone (number_of g))

  draft_by : (b c : Bool) → (if b then ending (keeping no_draft h g (b && c)) h g else no_draft)
      ≡ record no_draft { applied = applied_by b c g.ends }
  draft_by true true = refl
  draft_by true false = refl
  draft_by false c = refl

  draft_is : give_draft t no_draft h g (status_told st g.fid) ≡ record no_draft { applied = base; sent = told ∷ [] }
  draft_is =
      ap (λ (b : Bool). if b then saying (give_applied t no_draft h g (status_told st g.fid)) told else no_draft)
      is_home_here
      ∙ ap (λ (d : Draft). saying d told) (draft_by first (has_some g && takes_told (status_told st g.fid))
      ∙ ap (λ (c : Bool). record no_draft { applied = applied_by first c g.ends })
      (sym (stored_same tree st g k.stands)))

  abbrev y : Tables
  y = freed (noted t h g) h g.ids

  tables_is : give_tables t h g ≡ y
  tables_is = ap (λ (b : Bool). if b then y else t) is_home_here

  abbrev next_by : Bool → Bool → StoreState
  next_by b c = if b then (if c then (act_done st (giving h g)).state else st) else st

  state_is : give_state t h g st ≡ next_by first kept
  state_is =
      ap (λ (b : Bool). if b && first then (if has_some g && takes_told (status_told st g.fid)
      then (act_done st (giving h g)).state else st) else st) is_home_here
      ∙ ap (next_by first) (sym (stored_same tree st g k.stands))

  -- # What the store keeps

  known : IsHost st.roster h
  known = subst (λ (r : Roster). IsHost r h) (sym served.store.roster) of.sound.host

  less : first ≡ true → last_give t.gives h g.fid.fileset < g.number
  less e = grind (arith, nat_tests, e)

  given_kept : first ≡ true → KeepsSo (Came m) tree (stored ∷ []) (act_done st (giving h g)).state
  given_kept e = drafts_stand.given (Came m) tree [] st h g.number g.fid (map span_of g.pieces) g.pieces g.length
      k.stands (ap pieces_of is) its.bytes.order
      (numbers_stay.new (last_give t.gives) st g.fid.fileset h g.number k.taken (less e))
      (known, its.bytes.ends, its.size)

  ended_kept : (l : List Applied) (next : StoreState) (o : Option Ends) → KeepsSo (Came m) tree l next
      → KeepsSo (Came m) tree (l ++ ends_by o) next
  ended_kept l next None s = subst (λ (a : List Applied). KeepsSo (Came m) tree a next) (sym (nothing l)) s
    where
      nothing : (l : List Applied) → l ++ [] ≡ l
      nothing [] = refl
      nothing (a ∷ l) = ap (λ (n : List Applied). a ∷ n) (nothing l)
  ended_kept l next (Some ends) s = drafts_stand.idle (Came m) tree l next
      (EndsCall (record { host = h; k = ends.k; call = ends.call; reply = Fine; first = false })) refl s

  keeps_by : (b c : Bool) → first ≡ b → KeepsSo (Came m) tree (applied_by b c g.ends) (next_by b c)
  keeps_by false c e = k.stands
  keeps_by true true e = ended_kept (stored ∷ []) (act_done st (giving h g)).state g.ends (given_kept e)
  keeps_by true false e = ended_kept [] st g.ends k.stands

  homes_by : (b c : Bool) (o : Option Ends) → are_home (filesets_through (Came m) (applied_by b c o) tree) ≡ true
  homes_by false c o = k.homes
  homes_by true false None = k.homes
  homes_by true false (Some ends) = k.homes
  homes_by true true None = homes_given tree g.fid (pieces_in (Came m)) g.length k.homes
  homes_by true true (Some ends) = homes_given tree g.fid (pieces_in (Came m)) g.length k.homes

  after : AreLast (given t.gives h (number_of g))
  after = last_given past server t.gives z.tables.gives z.gives h (number_of g)

  abbrev gives_by : Bool → List LastGive
  gives_by b = if b then given t.gives h (number_of g) else t.gives

  below_by : (b c : Bool) → first ≡ b → GivesBelow (last_give (gives_by b)) (next_by b c)
  below_by false c e = k.taken
  below_by true true e = numbers_stay.given (last_give t.gives) (last_give (given t.gives h (number_of g))) st h
      g.number g.fid g.pieces g.length k.taken (rises t.gives h (number_of g) z.gives after (less e))
      (reaches t.gives h (number_of g) z.gives after)
  below_by true false e = below_more (last_give t.gives) (last_give (given t.gives h (number_of g))) st
      (rises t.gives h (number_of g) z.gives after (less e)) k.taken

  epoch_by : (b c : Bool) → (next_by b c).epoch ≡ st.epoch
  epoch_by false c = refl
  epoch_by true true = give_epoch st h g.number g.fid g.pieces g.length
  epoch_by true false = refl

  last_by : (b : Bool) → AreLast (gives_by b)
  last_by true = after
  last_by false = z.gives

  none_by : (b c : Bool) (o : Option Ends) → deciding (applied_by b c o) ≡ []
  none_by false c o = refl
  none_by true false None = refl
  none_by true false (Some ends) = refl
  none_by true true None = refl
  none_by true true (Some ends) = refl

  undone_by : (b c : Bool) (o : Option Ends) (v : Written) → In (IsDone v) (applied_by b c o) → ⊥
  undone_by false c o v i = elim i [ ]
  undone_by true false None v i = elim i [ ]
  undone_by true false (Some ends) v (inl e) = cc
  undone_by true false (Some ends) v (inr i) = elim i [ ]
  undone_by true true None v (inl e) = cc
  undone_by true true None v (inr i) = elim i [ ]
  undone_by true true (Some ends) v (inl e) = cc
  undone_by true true (Some ends) v (inr (inl e)) = cc
  undone_by true true (Some ends) v (inr (inr i)) = elim i [ ]

  -- # The tables

  without : IsWithout t.tokens.grants (returning t.tokens.grants h g.ids) h g.ids
  without = returns_all t.tokens.grants h g.ids (record { one = one; noted = z.tables.tokens.noted })

  took_is : took ≡ Took h (epoch past) m.moves (GiveBack g)
  took_is i = Took h (now i) m.moves (is i)

  its_body : (j : HostId) (e n : ℕ) (b : Body) → took ≡ Took j e n b → GiveBack g ≡ b
  its_body j e n b p = sym is ∙ (same_took m.host j m.epoch e m.moves n m.body b p).3

  stands : Stands (took ∷ past) y
  stands = subst (λ (a : Doing). Stands (a ∷ past) y) (sym took_is)
      (subst (λ (r : Manager). Stands (Took h (epoch past) m.moves (GiveBack g) ∷ past) (record y { tokens = r }))
      (sym (returned_is t.tokens h g.ids))
      (stands_given past t z.tables h m.moves g live here some z.gives
      (record t.tokens { grants = returning t.tokens.grants h g.ids }) without refl))

  hosts_same : HostsStill past took
  hosts_same = record {
    calm = record {
      begin = λ w. let q = w.1 in cc;
      still = λ w. let q = w.1 in cc;
      away = λ j w. absurd (elim w [
        | inl f ↦ (let q = its_body j f.0 f.1 Down f.2 in cc)
        | inr f ↦ (let q = its_body j (epoch past) f.0.0 Bye f.0.1 in cc)
      ]);
      admits = λ j ts q. cc;
    };
    hello = λ j f l d. (let q = its_body j f.0 f.1 Hello f.2 in cc);
    down = λ j f. absurd (let q = its_body j f.0 f.1 Down f.2 in cc);
    sends = λ j e i d q. absurd (cc);
  }

  -- what is noted of what the host gave up leaves the claims and their answers
  rest_same : {A : Type 0} (f : Recovering → A)
      → f t.recovering ≡ f t.recovering
      → f (record t.recovering {
        taken = taking_one t.recovering.taken h (number_of g);
        given_up = ups_of t.recovering.given_up h g.ids;
      }) ≡ f t.recovering
      → f y.recovering ≡ f t.recovering
  rest_same f p q = elim (cases_Bool (has_host t.hosts.reclaimed h)) [
    | inl r ↦ rw r p
    | inr r ↦ rw r q
  ]

  claims_same : y.recovering.claims ≡ t.recovering.claims
  claims_same = rest_same (λ (r : Recovering). r.claims) refl refl

  answers_same : y.recovering.answers ≡ t.recovering.answers
  answers_same = rest_same (λ (r : Recovering). r.answers) refl refl

  answered : AnsweredStand (took ∷ past) y.recovering.answers
  answered = subst (λ (l : List Answered). AnsweredStand (took ∷ past) l) (sym answers_same)
      (answered_still past took hosts_same z.answered)

  onset : (next : StoreState) → next ≡ next_by first kept → IsServed y next → IsOnset server tree past m base y next
  onset next e s = record {
    server_is = refl;
    none = none_by first kept g.ends;
    undone = undone_by first kept g.ends;
    served = s;
    keeps = subst (KeepsSo (Came m) tree base) (sym e) (keeps_by first kept refl);
    kept_homes = homes_by first kept g.ends;
    below = subst (GivesBelow (last_give y.gives)) (sym e) (below_by first kept refl);
    epoch = ap (λ (q : StoreState). q.epoch) e ∙ epoch_by first kept ∙ k.epoch;
    listed = z.once;
    known = z.known;
    gives = last_by first;
    changes = z.changes;
    enters = z.enters;
    tokens = λ u i. z.homes u (without.were u
        (subst (λ (r : Manager). In u (tokens_of r.grants)) (returned_is t.tokens h g.ids) i));
    waits = λ c i. (let w = z.claims c (subst (In c) claims_same i) in (
      (λ r. w.0 (reclaimed_back past took hosts_same c.host r)),
      live_still past took hosts_same.calm c.host w.1,
    ));
    queued = λ p i. z.tables.wants.pending p i;
  }

  -- # What is said

  takes_it : TakesOf server past took h g.fid.fileset (GiveBack g)
  takes_it = (m.moves, here, (took_is, live))

  applied_now : IsApplied server (took ∷ past) h (number_of g)
  applied_now = inl (g, takes_it, refl, omega arith)

  gone_word : IsWordOf server (took ∷ past) h 0 (Gone (number_of g))
  gone_word = record {
    blank = gone_blank (number_of g);
    gone = λ n e. (let q = its_number (number_of g) n e in (
      here_to server (took ∷ past) n.fileset 0 z.tables.slots refl
          (subst (λ (a : AppliedGive). is_of server a.fileset ≡ true) q is_home_here),
      subst (IsApplied server (took ∷ past) h) q applied_now,
    ));
    reclaimed = λ r n e. absurd (cc);
    left_out = λ r i e. absurd (cc);
  }

  said_it : (j : HostId) (b : Body) → SaysTo (told ∷ []) j b → (h ≡ j) × (Gone (number_of g) ≡ b)
  said_it j b w = elim w.1 [
    | inl q ↦ (sym (ap (λ (o : Message). o.host) q) ∙ w.2, sym (ap (λ (o : Message). o.body) q) ∙ w.3)
    | inr i ↦ elim i [ ]
  ]

  module _ (s : Step) (e : s.cause ≡ Came m) where
    its_taken : (j : HostId) (n : ℕ) (b : Body) → TakenNow past s j n b → GiveBack g ≡ b
    its_taken j n b q = sym is ∙ (taken_m past m s e j n b q).3

    taken_now : TakenNow past s h m.moves (GiveBack g)
    taken_now = ((m, e, refl, now, refl, is), live)

    says_gone : SaysAtOnce server past s (told ∷ [])
    says_gone = record {
      hello_old = λ j f l old. absurd (let q = sym is ∙ (heard_m past m s e j Hello f).1 in cc);
      hello = λ j f up either. absurd (let q = sym is ∙ (heard_m past m s e j Hello f).1 in cc);
      bye = λ j f up either. absurd (let q = sym is ∙ (heard_m past m s e j Bye f).1 in cc);
      late = λ j n came host l other hello down.
          absurd (other (sym (was_m past m s e j n came host).1 ∙ now));
      restarted_only = λ j w. absurd (let q = (said_it j Restarted w).1 in cc);
      gone = λ j n d q there. (let p = taken_m past m s e j n (GiveBack d) q in
          (told, inl refl, p.0, ap (λ (a : Give). Gone (number_of a)) (its_give g d (sym is ∙ p.3))));
      gone_only = λ j n w. (let p = said_it j (Gone n) w in (
        m.moves,
        g,
        subst (λ (i : HostId). TakenNow past s i m.moves (GiveBack g)) p.0 taken_now,
        its_number (number_of g) n p.1,
      ));
      claim_again = λ j n c q r. absurd (let p = its_taken j n (Reclaim c) q in cc);
      bye_only = λ j w. absurd (let q = (said_it j Bye w).1 in cc);
      reclaimed_only = λ j a w. absurd (let q = (said_it j (Reclaimed a) w).1 in cc);
      repeats = λ j n c d q there f l last done. absurd (let p = its_taken j n (Change c) q in cc);
      dones_only = λ j d w. absurd (let q = (said_it j (Done d) w).1 in cc);
      no_grant = λ j a w. (let q = (said_it j (Grant a) w).1 in cc);
      no_revoke = λ j r w. (let q = (said_it j (Revoke r) w).1 in cc);
    }

  caused : AreCaused server tree past m base (told ∷ [])
  caused = record {
    given = λ s e j d f. (let p = taken_m past m s e j f.0.0 (GiveBack d) f.0.1 in
        let q : g ≡ d = its_give g d (sym is ∙ p.3) in
        ap (λ (b : Bool). applied_by b kept g.ends) (must j d p.0 q f.1)
        ∙ (λ i. stored_of tree (p.0 i) (q i) ++ ended_by (p.0 i) (q i)));
    down = λ s e j f. absurd (let q = sym is ∙ (heard_m past m s e j Down f.0).1 in cc);
    else_none = λ s e a b. elim (cases_Bool first) [
      | inl f ↦ absurd (a h g (
        (m.moves, taken_now s e, here),
        is_new past server t.gives z.tables.gives z.gives h (number_of g) f,
      ))
      | inr f ↦ ap (λ (q : Bool). applied_by q kept g.ends) f
    ];
    at_once = λ s e. says_gone s e;
    never = λ j n claim q never r. never (reclaimed_back past took hosts_same j r);
  }
    where
      -- one that isn't applied yet is the first of its number
      must : (j : HostId) (d : Give) → h ≡ j → g ≡ d → (IsApplied server past j (number_of d) → ⊥) → first ≡ true
      must j d p q new = elim (cases_Bool first) [
        | inl f ↦ f
        | inr f ↦ absurd (new (subst (λ (o : HostId × Give). IsApplied server past o.0 (number_of o.1))
            (λ i. (p i, q i)) (was_taken past server t.gives z.tables.gives z.gives h (number_of g) f some)))
      ]

  none_new : NoneNew server tree past m
  none_new s e j n r q = not_asked g r (its_taken s e j n (body_of r) q.taken)

  begins_here : (next : StoreState) → next ≡ next_by first kept → IsServed y next
      → HasBegun server (Came m) tree past (making y (record no_draft { applied = base; sent = told ∷ [] }) next)
  begins_here next e s = begins server tree past m base y next (told ∷ []) (onset next e s)
      (one_said server (took ∷ past) y stands h (Gone (number_of g)) (gone_blank (number_of g)) gone_word
      (λ r q. absurd (cc)) answered) caused z.told none_new

-- # The forms by which a message is taken

module _ (tree : Tree) (past : List Doing) (x : Exporter) (z : IsAt past tree x) (m : Message) (st : StoreState)
    (k : Keeps x.tables tree st) where
  -- the store may be given it twice
  pub give_again : IsServed x.tables st → IsFor x.tables.server x.tables.roster m → (g : Give)
      → m.body ≡ GiveBack g → IsRepeatable st (giving m.host g)
  give_again served of g is =
      let s = acts_are_steady.given st m.host g.number g.fid g.pieces g.length k.stands.keeps.storable.limits
      (few_hosts tree st m.host k.stands
      (subst (λ (r : Roster). IsHost r m.host) (sym served.store.roster) of.sound.host)) in
      record { fits = tt; fits_again = tt; state_same = s.state_same; reply_same = s.reply_same }

  module _ (live : IsLive past m.host) (current : m.epoch ≡ epoch past)
      (one : (u v : Token) → In u (tokens_of x.tables.tokens.grants) → In v (tokens_of x.tables.tokens.grants)
      → u.id ≡ v.id → u ≡ v) (g : Give) (is : m.body ≡ GiveBack g) (served : IsServed x.tables st) where
    pub give_opens : m.moves ≡ 0 → IsFor x.tables.server x.tables.roster m
        → IsServed (give_tables x.tables m.host g) (give_state x.tables m.host g st)
        → HasBegun x.tables.server (Came m) tree past (making (give_tables x.tables m.host g)
        (give_draft x.tables no_draft m.host g (status_told st g.fid)) (give_state x.tables m.host g st))
    give_opens unmoved of after =
        let a = tables_is tree past x z m g is live current unmoved of st k served one in
        let d = draft_is tree past x z m g is live current unmoved of st k served one in
        subst (λ (o : Tables × Draft). HasBegun x.tables.server (Came m) tree past
        (making o.0 o.1 (give_state x.tables m.host g st))) (λ i. (sym a i, sym d i))
        (begins_here tree past x z m g is live current unmoved of st k served one (give_state x.tables m.host g st)
        (state_is tree past x z m g is live current unmoved of st k served one)
        (subst (λ (o : Tables). IsServed o (give_state x.tables m.host g st)) a after))

    abbrev took_away : Doing
    took_away = Took m.host m.epoch m.moves m.body

    -- it is of a later stay of its fileset
    module _ (moved : m.moves ≡ 0 → ⊥) where
      still_away : IsStill x.tables.server x.tables.stamp past took_away
      still_away = subst (λ (b : Body). IsStill x.tables.server x.tables.stamp past (Took m.host m.epoch m.moves b))
          (sym is) (give_still x.tables.server past z.tables.slots m.host m.epoch m.moves (inr (inr moved)) g x.tables.stamp)

      onset_away : IsOnset x.tables.server tree past m [] x.tables st
      onset_away = record {
        server_is = refl;
        none = refl;
        undone = λ v i. elim i [ ];
        served = served;
        keeps = k.stands;
        kept_homes = k.homes;
        below = k.taken;
        epoch = k.epoch;
        listed = z.once;
        known = z.known;
        gives = z.gives;
        changes = z.changes;
        enters = z.enters;
        tokens = z.homes;
        waits = λ c i. (let w = z.claims c i in (
          (λ r. w.0 (reclaimed_back past took_away still_away.hosts c.host r)),
          live_still past took_away still_away.hosts.calm c.host w.1,
        ));
        queued = λ p i. z.tables.wants.pending p i;
      }

      module _ (s : Step) (e : s.cause ≡ Came m) where
        away_taken : (j : HostId) (n : ℕ) (b : Body) → TakenNow past s j n b → GiveBack g ≡ b
        away_taken j n b q = sym is ∙ (taken_m past m s e j n b q).3

        none_here : (j : HostId) (n : ℕ) (d : Give) → TakenNow past s j n (GiveBack d)
            → Here x.tables.server past d.fid.fileset n → ⊥
        none_here j n d q there = moved ((taken_m past m s e j n (GiveBack d) q).2
            ∙ (here_from x.tables.server past d.fid.fileset n z.tables.slots there).0)

        away_says : SaysAtOnce x.tables.server past s []
        away_says = record {
          hello_old = λ j f l old. absurd (let q = sym is ∙ (heard_m past m s e j Hello f).1 in cc);
          hello = λ j f up either. absurd (let q = sym is ∙ (heard_m past m s e j Hello f).1 in cc);
          bye = λ j f up either. absurd (let q = sym is ∙ (heard_m past m s e j Bye f).1 in cc);
          late = λ j n came host l other hello down.
              absurd (other (sym (was_m past m s e j n came host).1 ∙ current));
          restarted_only = λ j w. elim w.1 [ ];
          gone = λ j n d q there. absurd (none_here j n d q there);
          gone_only = λ j n w. elim w.1 [ ];
          claim_again = λ j n c q r. absurd (let p = away_taken j n (Reclaim c) q in cc);
          bye_only = λ j w. elim w.1 [ ];
          reclaimed_only = λ j a w. elim w.1 [ ];
          repeats = λ j n c d q there f l last done. absurd (let p = away_taken j n (Change c) q in cc);
          dones_only = λ j d w. elim w.1 [ ];
          no_grant = λ j a w. elim w.1 [ ];
          no_revoke = λ j r w. elim w.1 [ ];
        }

      caused_away : AreCaused x.tables.server tree past m [] []
      caused_away = record {
        given = λ s e j d f. absurd (none_here s e j f.0.0 d f.0.1 f.0.2);
        down = λ s e j f. absurd (let q = sym is ∙ (heard_m past m s e j Down f.0).1 in cc);
        else_none = λ s e a b. refl;
        at_once = λ s e. away_says s e;
        never = λ j n claim q never r. never (reclaimed_back past took_away still_away.hosts j r);
      }

      pub give_away : HasBegun x.tables.server (Came m) tree past (making x.tables no_draft st)
      give_away = begins x.tables.server tree past m [] x.tables st [] onset_away
          (none_said x.tables.server (took_away ∷ past) x.tables (still past took_away x.tables still_away z.tables)
          (answered_still past took_away still_away.hosts z.answered)) caused_away z.told
          (λ s e j n r q. not_asked g r (away_taken s e j n (body_of r) q.taken))
