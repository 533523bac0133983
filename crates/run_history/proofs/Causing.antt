-- In every run what a server stores, and loses, by the cause of a step is so in each tree with the cells of the run.
use Rattle.std.proofs.Common.{Bool, List, None, Option, Some, ap, false, inl, inr, is_some, length, nat_lt, not, refl}
use Rattle.std.proofs.Common.{subst, sym, true, ℕ, ◌&&◌, ◌++◌, ◌<◌, ◌==◌, ◌||◌, ◌∙◌, ◌∷◌, ◌≡◌}
use Rattle.std.proofs.lemmas.Bool.{and_parts, eqb-false, eqb-true, false≢true}
use Rattle.std.specs.List.{find, list_all}
use Rattle.std.specs.Option.{option_map_or}
use Rattle.std.specs.Prelude.{[], if◌then◌else◌, map}
use Rattle.base_types.specs.Ids.{same_fid}
use Rattle.base_types.specs.declared.ids.Fid.{Fid}
use Rattle.base_types.specs.declared.ids.FilesetId.{FilesetId}
use Rattle.base_types.specs.declared.ids.HostId.{HostId}
use Rattle.base_types.specs.declared.ids.Node.TheVariants.{Server}
use Rattle.base_types.specs.declared.ids.ServerId.{ServerId}
use Rattle.base_types.specs.declared.span.Span.{Span}
use Rattle.tree_calls.specs.declared.entry.Entry.{Entry}
use Rattle.tree_calls.specs.declared.entry.Entry.TheVariants.{Down as DownEntry, Stored as StoredEntry}
use Rattle.tree_calls.specs.declared.reply.Reply.TheVariants.{Ok as Fine}
use Rattle.tree_filesets.specs.declared.fileset.Fileset.{Fileset}
use Rattle.need_host.specs.Looks.{kept_view}
use Rattle.tree_answers.proofs.Followed.{same_fid_itself}
use Rattle.tree_answers.specs.Finding.{has_id}
use Rattle.tree_answers.specs.Histories.{IsLegal, after_entry}
use Rattle.tree_answers.specs.Losses.{is_at}
use Rattle.tree_answers.specs.WellFormed.{IsWellFormed}
use Rattle.tree_answers.specs.declared.tree.Tree.{Tree}
use Rattle.message_types.specs.Soundness.{IsBody, IsGiveBack}
use Rattle.message_types.specs.declared.giving.Ends.{Ends as EndsOf}
use Rattle.message_types.specs.declared.giving.Give.{Give}
use Rattle.message_types.specs.declared.message.Body.{Body}
use Rattle.message_types.specs.declared.message.Body.TheVariants.{Down, GiveBack}
use Rattle.message_types.specs.declared.message.Message.{Message}
use Rattle.script_lines.specs.declared.script.Script.{Script}
use Rattle.tree_laws.proofs.Steps.{fid_is, same_number}
use Rattle.tree_laws.proofs.TreeFates.{parts_change_so}
use Rattle.tree_laws.specs.Fates.{after_fate, without}
use Rattle.tree_laws.specs.Fates.Fate.{IsForgotten, Stays}
use Rattle.tree_laws.specs.Parts.{Cell, Nature, Part, Seen, Written, cell_at, cell_in, no_cell}
use Rattle.tree_laws.specs.Parts.Part.{ByteAt, Entries, Size, Traits}
use Rattle.run_rules.specs.Doings.{Doing, HasGoneDown as IsDownHost, Here, IsApplied, IsLive, admitting, doings_of}
use Rattle.run_rules.specs.Doings.{epoch, sending}
use Rattle.run_rules.specs.Doings.Doing.{Reserves, Took}
use Rattle.run_rules.specs.Kept.{filesets_kept, filesets_through, length_given, pieces_in, pieces_of, takes_gifts}
use Rattle.run_rules.specs.Messages.{home}
use Rattle.run_rules.specs.Past.{In}
use Rattle.run_rules.specs.Runs.{StepMeets, StepsMeet}
use Rattle.run_rules.specs.ServerDecides.{FirstDown, FirstGiven, ServerApplies, by_cause, decisions, ended_by}
use Rattle.run_rules.specs.ServerDecides.{is_decision, span_of, stored_of}
use Rattle.run_rules.specs.Steps.{steps_of_server}
use Rattle.run_rules.specs.Tokens.{number_of}
use Rattle.run_rules.specs.Views.{byte_of}
use Rattle.run_rules.specs.declared.applied.Applied.TheVariants.{IsDown, Replied, Stored}
use Rattle.run_tokens.specs.TokenLaws.{Applies}
use Rattle.run_parts.specs.Doings.{doings_cause}
use Rattle.run_history.proofs.Storing.{gift_file, stores_cells, stores_legally}
use Rattle.run_history.specs.Agreement.{AreHome, CausedCells, CellsAgree}
use Rattle.run_parts.proofs.PlaceLaw.{Kept}
use Rattle.run_parts.specs.Cells.{Does, by, cell_after, kept_after as kept_after_part}
use Rattle.run_parts.specs.Cells.Does.{Loses, Nothing}
use Rattle.run_parts.specs.Contents.{Contents, IsData, kept as kept_deeds, site}
use Rattle.run_parts.specs.Deeds.{Deed, acts_in}
use Rattle.run_parts.specs.Legal.{LegalDoing, LegalDoings, LegalSize, LegalStep, tree, served as served_deeds}
use Rattle.run_contents.proofs.Bodies.{cases_nat, down, here, is_down, is_give, live, server_is}
use Rattle.run_contents.proofs.Caused.{no_message}
use Rattle.run_contents.proofs.Sent.{At}
use Rattle.run_contents.proofs.Sound.{said_sound}
use Rattle.run_contents.proofs.Words.{any_in, both, in_any}
use Rattle.run_contents.specs.Doing.{decided, deeds_at, does_first, does_nothing, stores_part, stores_some, with_doing}
use Rattle.run_contents.specs.Instance.{IsOfRun}
use Rattle.run_tokens.proofs.Words.{made_at}
use Rattle.run_rules.specs.declared.applied.Applied.{Applied}
use Rattle.run_rules.specs.declared.step.Cause.{Cause}
use Rattle.run_rules.specs.declared.step.Cause.TheVariants.{End, Evict, Flushed, Freight, Lapse, Line, Message as Came}
use Rattle.run_rules.specs.declared.step.Cause.TheVariants.{Restart}
use Rattle.run_tokens.specs.Unmoved.{StaysPut}
use Rattle.run_rules.specs.Doings.{shipping}
use Rattle.run_rules.specs.declared.step.Step.{Step}

-- what is applied stands in what the cause applies, or is decided
in_cause : (xs : List Applied) (x : Applied) → list_all is_decision (decisions xs) ≡ true → In x xs
    → is_decision x ≡ false → In x (by_cause xs)
in_cause [] x all i e = i
in_cause (y ∷ ys) x all i e = go (is_decision y) refl (λ a j. in_cause ys x a j e) all i
  where
    none : (zs : List Applied) → list_all is_decision zs ≡ true → In x zs → ⊥
    none [] a j = j
    none (z ∷ zs) a (inl q) =
        false≢true (sym (ap is_decision (sym q) ∙ e) ∙ (and_parts (is_decision z) (list_all is_decision zs) a).0)
    none (z ∷ zs) a (inr j) = none zs (and_parts (is_decision z) (list_all is_decision zs) a).1 j

    go : (b : Bool) → is_decision y ≡ b
        → (list_all is_decision (decisions ys) ≡ true → In x ys → In x (by_cause ys))
        → list_all is_decision (if b then y ∷ ys else decisions ys) ≡ true → In x (y ∷ ys)
        → In x (if b then [] else y ∷ by_cause ys)
    go true q rest a j = absurd (none (y ∷ ys) a j)
    go false q rest a (inl j) = inl j
    go false q rest a (inr j) = inr (rest a j)

-- what stands in what a give-back leaves to apply
stored_is : (tree : Tree) (h host : HostId) (g : Give) (f : Fid) (spans : List Span) (n : Option ℕ)
    → In (Stored host f spans n) (stored_of tree h g ++ ended_by h g)
    → (host ≡ h) × (f ≡ g.fid) × (spans ≡ map span_of g.pieces) × (n ≡ g.length)
    × ((takes_gifts tree g.fid && (nat_lt 0 (length g.pieces) || is_some g.length)) ≡ true)
stored_is tree h host g f spans n i =
    by (takes_gifts tree g.fid && (nat_lt 0 (length g.pieces) || is_some g.length)) refl i
  where
    ends : (o : Option EndsOf) → In (Stored host f spans n)
        (option_map_or
        (λ ends. Replied (record { host = h; k = ends.k; call = ends.call; reply = Fine; first = false }) ∷ []) o [])
        → ⊥
    ends None i = elim i [ ]
    ends (Some e) (inl q) = cc
    ends (Some e) (inr i) = elim i [ ]

    by : (b : Bool) → (takes_gifts tree g.fid && (nat_lt 0 (length g.pieces) || is_some g.length)) ≡ b
        → In (Stored host f spans n)
        ((if b then Stored h g.fid (map span_of g.pieces) g.length ∷ [] else []) ++ ended_by h g)
        → (host ≡ h) × (f ≡ g.fid) × (spans ≡ map span_of g.pieces) × (n ≡ g.length)
        × ((takes_gifts tree g.fid && (nat_lt 0 (length g.pieces) || is_some g.length)) ≡ true)
    by true e (inl q) = (cc, cc, cc, cc, e)
    by true e (inr i) = absurd (ends g.ends i)
    by false e i = absurd (ends g.ends i)

down_only : (h host : HostId) (f : Fid) (spans : List Span) (n : Option ℕ) → In (Stored host f spans n) (IsDown h ∷ [])
    → ⊥
down_only h host f spans n (inl q) = let r : Stored host f spans n ≡ IsDown h = q in cc
down_only h host f spans n (inr i) = i

no_down : (tree : Tree) (h host : HostId) (g : Give) → In (IsDown host) (stored_of tree h g ++ ended_by h g) → ⊥
no_down tree h host g i = by (takes_gifts tree g.fid && (nat_lt 0 (length g.pieces) || is_some g.length)) i
  where
    ends : (o : Option EndsOf) → In (IsDown host)
        (option_map_or
        (λ ends. Replied (record { host = h; k = ends.k; call = ends.call; reply = Fine; first = false }) ∷ []) o [])
        → ⊥
    ends None i = elim i [ ]
    ends (Some e) (inl q) = cc
    ends (Some e) (inr i) = elim i [ ]

    by : (b : Bool) → In (IsDown host)
        ((if b then Stored h g.fid (map span_of g.pieces) g.length ∷ [] else []) ++ ended_by h g) → ⊥
    by true (inl q) = let r : IsDown host ≡ Stored h g.fid (map span_of g.pieces) g.length = q in cc
    by true (inr i) = ends g.ends i
    by false i = ends g.ends i

-- the cause that applies something
module _ (v : ServerId) (S : List Doing) (tree : Tree) (s : Step) (k : ServerApplies v tree S s) where
  abbrev Cause_is : Type 0
  Cause_is = (m : Message) × (s.cause ≡ Came m)

  came : (x : Applied) → In x (by_cause s.applied) → Cause_is
  came x i = go s.cause refl
    where
      none : (other : Cause) → s.cause ≡ other → ((m : Message) → other ≡ Came m → ⊥) → Cause_is
      none other e never =
          elim (subst (In x) (no_message v S tree s k (λ m q. never m (sym e ∙ q))) i) [ ]

      go : (other : Cause) → s.cause ≡ other → Cause_is
      go (Came m) e = (m, e)
      go (Restart line) e = none (Restart line) e (λ m q. cc)
      go (Line line) e = none (Line line) e (λ m q. cc)
      go Flushed e = none Flushed e (λ m q. cc)
      go Lapse e = none Lapse e (λ m q. cc)
      go Evict e = none Evict e (λ m q. cc)
      go (Freight freight) e = none (Freight freight) e (λ m q. cc)
      go End e = none End e (λ m q. cc)

  -- a give-back that is stored is applied for the first time
  module _ (m : Message) (cause : s.cause ≡ Came m) where
    one_message : (n : Message) → s.cause ≡ Came n → m ≡ n
    one_message n e = let r : Came m ≡ Came n = sym cause ∙ e in cc

    down_body : (h : HostId) → FirstDown S s h → m.body ≡ Down
    down_body h first = ap (λ (x : Message). x.body) (one_message first.0.0 first.0.1) ∙ first.0.3

    down_host : (h : HostId) → FirstDown S s h → m.host ≡ h
    down_host h first = ap (λ (x : Message). x.host) (one_message first.0.0 first.0.1) ∙ first.0.2

    give_body : (h : HostId) (g : Give) → FirstGiven v S s h g → m.body ≡ GiveBack g
    give_body h g first = ap (λ (x : Message). x.body) (one_message first.0.1.0.0 first.0.1.0.1) ∙ first.0.1.0.5

    module _ (host : HostId) (f : Fid) (spans : List Span) (n : Option ℕ)
        (i : In (Stored host f spans n) (by_cause s.applied)) where
      never : ((h : HostId) (g : Give) → FirstGiven v S s h g → ⊥) → ⊥
      never non =
          elim (subst (In (Stored host f spans n)) (k.else_none non
          (λ h first. down_only h host f spans n (subst (In (Stored host f spans n)) (k.down h first) i))) i) [ ]

      pub first_given : (g : Give) × (m.body ≡ GiveBack g) × FirstGiven v S s m.host g
          × Applies v S (Took m.host m.epoch m.moves m.body) m.host g
      first_given = elim (is_give m.body) [
        | inr none ↦ absurd (never (λ h g first. none g (give_body h g first)))
        | inl (g, is) ↦ elim (cases_nat m.epoch (epoch S)) [
          | inr late ↦ absurd (never (λ h j first.
              late (ap (λ (x : Message). x.epoch) (one_message first.0.1.0.0 first.0.1.0.1) ∙ first.0.1.0.3)))
          | inl now ↦ elim (live S m.host) [
            | inr dead ↦ absurd (never (λ h j first.
                dead (subst (IsLive S) (sym (ap (λ (x : Message). x.host)
                (one_message first.0.1.0.0 first.0.1.0.1) ∙ first.0.1.0.2)) first.0.1.1)))
            | inl up ↦ elim (here v S g.fid.fileset m.moves) [
              | inr away ↦ absurd (never (λ h j first.
                  let moves : m.moves ≡ first.0.0 =
                  ap (λ (x : Message). x.moves) (one_message first.0.1.0.0 first.0.1.0.1) ∙ first.0.1.0.4 in
                  let give : GiveBack g ≡ GiveBack j = sym is ∙ give_body h j first in
                  let is_it : g ≡ j = cc in
                  away (subst (λ (y : FilesetId × ℕ). Here v S y.0 y.1)
                  (λ i. ((sym is_it i).fid.fileset, sym moves i)) first.0.2)))
              | inl in_place ↦ given g is now up in_place
            ]
          ]
        ]
      ]
        where
          given : (g : Give) → m.body ≡ GiveBack g → m.epoch ≡ epoch S → IsLive S m.host
              → Here v S g.fid.fileset m.moves
              → (g : Give) × (m.body ≡ GiveBack g) × FirstGiven v S s m.host g
              × Applies v S (Took m.host m.epoch m.moves m.body) m.host g
          given g is now up in_place =
              let fresh : IsApplied v S m.host (number_of g) → ⊥ = λ was. never (λ h j first.
              let host_is : m.host ≡ h =
              ap (λ (x : Message). x.host) (one_message first.0.1.0.0 first.0.1.0.1) ∙ first.0.1.0.2 in
              let give : GiveBack g ≡ GiveBack j = sym is ∙ give_body h j first in
              let is_it : g ≡ j = cc in
              first.1 (subst (λ (y : HostId × Give). IsApplied v S y.0 (number_of y.1))
              (λ i. (host_is i, is_it i)) was)) in (
                g,
                is,
                ((m.moves, ((m, cause, refl, now, refl, is), up), in_place), fresh),
                ((m.moves, in_place, ((λ i. Took m.host (now i) m.moves (is i)), up)), fresh),
              )

    module _ (host : HostId) (i : In (IsDown host) (by_cause s.applied)) where
      never_down : ((h : HostId) → FirstDown S s h → ⊥) → ⊥
      never_down non =
          elim (subst (In (IsDown host)) (k.else_none
          (λ h g first. no_down tree h host g (subst (In (IsDown host)) (k.given h g first) i)) non) i) [ ]

      -- all that is applied then is that Down
      pub only_down : by_cause s.applied ≡ IsDown host ∷ []
      only_down = elim (is_down m.body) [
        | inr none ↦ absurd (never_down (λ h first. none (down_body h first)))
        | inl is ↦ elim (down S m.host) [
          | inr up ↦ its (k.down m.host ((m, cause, refl, is), up))
          | inl was ↦ absurd (never_down (λ h first.
              first.1 (subst (IsDownHost S) (down_host h first) was)))
        ]
      ]
        where
          its : by_cause s.applied ≡ IsDown m.host ∷ [] → by_cause s.applied ≡ IsDown host ∷ []
          its e = elim (subst (In (IsDown host)) e i) [
            | inl q ↦ e ∙ ap (λ a. a ∷ []) (sym q)
            | inr j ↦ elim j [ ]
          ]

-- a fileset that is found stands in its list
found_in : {X : Type 0} (test : X → Bool) (xs : List X) (x : X) → find test xs ≡ Some x → In x xs × (test x ≡ true)
found_in test [] x e = absurd (let q : None ≡ Some x = e in cc)
found_in {X} test (y ∷ ys) x e = go (λ r. found_in test ys x r) (test y) refl e
  where
    go : (find test ys ≡ Some x → In x ys × (test x ≡ true)) → (b : Bool) → test y ≡ b → (if b then Some y else find test ys) ≡ Some x → In x (y ∷ ys) × (test x ≡ true)
    go rest true q e =
        let one : y ≡ x = (let r : Some y ≡ Some x = e in cc) in
        (inl (sym one), ap test (sym one) ∙ q)
    go rest false q e = let r = rest e in (inr r.0, r.1)

nothing_lost : {X : Type 0} (h : HostId) (cell : Cell X) → cell.unsaved ≡ None
    → cell ≡ (let new : Cell X = record { kept = cell.kept; unsaved = without h cell.unsaved } in new)
nothing_lost {X} h cell e =
    ap (λ (o : Option (Written X)). let new : Cell X = record { kept = cell.kept; unsaved = o } in new)
    (e ∙ sym (ap (λ (o : Option (Written X)). without h o) e))

size_given : (o : Option ℕ) (n : ℕ) → kept_after_part Size (stores_some o) n ≡ length_given n o
size_given None n = refl
size_given (Some x) n = refl

-- a server's step in a run, and a tree with the cells of the run before it
module _ (script : Script) (start : Tree) (firsts : ServerId → ℕ) (c : Contents) (of_run : IsOfRun start firsts c)
    (past : List Step) (run : StepsMeet script start firsts past) (v : ServerId) (s : Step)
    (m : StepMeets script start firsts (Server v) past s) (kept_now : Kept c firsts past)
    (doings_are : acts_in (served_deeds c (firsts v) v past) ≡ doings_of (firsts v) v past)
    (at : At c v (served_deeds c (firsts v) v past) (filesets_kept start v (steps_of_server v past)))
    (deeds_are : c.deeds past s ≡ deeds_at start firsts (Server v) past s)
    (legal : LegalStep c firsts (Server v) s past) (tree_is : Tree) (formed : IsWellFormed tree_is)
    (cells : CellsAgree c past tree_is) where
  abbrev S : List Doing
  S = doings_of (firsts v) v past

  abbrev D : List Deed
  D = served_deeds c (firsts v) v past

  abbrev K : Tree
  K = filesets_kept start v (steps_of_server v past)

  abbrev k : ServerApplies v K S s
  k = m.0.works.applies

  abbrev first : Message → Deed
  first x = record { act = Took x.host x.epoch x.moves x.body; does = does_first s.cause K (by_cause s.applied) }

  legal_first : (x : Message) → s.cause ≡ Came x → LegalDoing c v D (first x) (tree c past)
  legal_first x cause =
      let rest = decided v s.cause (filesets_through s.cause (by_cause s.applied) K) (decisions s.applied)
      ++ with_doing does_nothing (admitting s.admitted ++ (sending s.sent ++ (shipping s.shipped ++ (Reserves s.reserved ∷ [])))) in
      let is : c.deeds past s ≡ first x ∷ rest =
      deeds_are
      ∙ ap (λ y. with_doing (does_first s.cause K (by_cause s.applied)) (doings_cause y S []) ++ rest) cause in
      (subst (λ ds. LegalDoings c v ds D (tree c past)) is legal).0

  kept_same : (f : Fid) (p : Part) → site f ≡ v → (cell_at tree_is f p).kept ≡ kept_view K f p
  kept_same f p home_is =
      ap (λ (z : Cell (Seen p)). z.kept) (cells f p)
      ∙ ((kept_now.at v).treed.kept_is p f home_is ∙ at.shows f p home_is)

  decisions_are : list_all is_decision (decisions s.applied) ≡ true
  decisions_are = k.decided

  -- what is stored
  module _ (h : HostId) (fid : Fid) (spans : List Span) (len : Option ℕ) (i : In (Stored h fid spans len) s.applied) where
    in_by : In (Stored h fid spans len) (by_cause s.applied)
    in_by = in_cause s.applied (Stored h fid spans len) decisions_are i refl

    abbrev its : (m : Message) × (s.cause ≡ Came m)
    its = came v S K s k (Stored h fid spans len) in_by

    abbrev x : Message
    x = its.0

    abbrev given : (g : Give) × (x.body ≡ GiveBack g) × FirstGiven v S s x.host g
        × Applies v S (Took x.host x.epoch x.moves x.body) x.host g
    given = first_given v S K s k x its.1 h fid spans len in_by

    abbrev g : Give
    g = given.0

    home_is : site g.fid ≡ v
    home_is = made_at v S g.fid.fileset given.3.0.0 (subst StaysPut doings_are at.put) given.3.0.1

    stored : (h ≡ x.host) × (fid ≡ g.fid) × (spans ≡ map span_of g.pieces) × (len ≡ g.length)
        × ((takes_gifts K g.fid && (nat_lt 0 (length g.pieces) || is_some g.length)) ≡ true)
    stored = stored_is K x.host h g fid spans len
        (subst (In (Stored h fid spans len)) (k.given x.host g given.2) in_by)

    shape : by_cause s.applied ≡ Stored x.host g.fid (map span_of g.pieces) g.length ∷ ended_by x.host g
    shape =
        k.given x.host g given.2
        ∙ ap (λ b. (if b then Stored x.host g.fid (map span_of g.pieces) g.length ∷ [] else []) ++ ended_by x.host g)
        stored.4

    pieces_are : pieces_in s.cause ≡ g.pieces
    pieces_are = ap pieces_in its.1 ∙ ap pieces_of given.1

    does_is : (f : Fid) (p : Part) → does_first s.cause K (by_cause s.applied) f p
        ≡ (if same_fid g.fid f
        then stores_part g.pieces g.length (length_given (cell_at tree_is g.fid Size).kept g.length) p else Nothing)
    does_is f p =
        ap (λ xs. does_first s.cause K xs f p) shape
        ∙ (λ i. if same_fid g.fid f
        then stores_part (pieces_are i) g.length (length_given (sym (kept_same g.fid Size home_is) i) g.length) p else Nothing)

    applies : Applies v (acts_in D) (first x).act x.host g
    applies = subst (λ T. Applies v T (first x).act x.host g) (sym doings_are) given.3

    lawful : LegalDoing c v D (first x) (tree c past)
    lawful = legal_first x its.1

    sound : IsGiveBack script.roster (said_sound script start firsts x.host v x.epoch x.moves x.body past run
        (m.1 x its.1).2).message g
    sound =
        let y = said_sound script start firsts x.host v x.epoch x.moves x.body past run (m.1 x its.1).2 in
        subst (λ (z : Body). IsBody script.roster y.message z) (y.body ∙ given.1) y.sound.body

    file : option_map_or (λ (nature : Nature). not nature.dir) (cell_at tree_is g.fid Traits).kept false ≡ true
    file =
        ap (λ (o : Option Nature). option_map_or (λ nature. not nature.dir) o false) (kept_same g.fid Traits home_is)
        ∙ gift_file K g.fid (and_parts (takes_gifts K g.fid) (nat_lt 0 (length g.pieces) || is_some g.length) stored.4).0

    sizes : (n : ℕ) → g.length ≡ Some n → LegalSize (cell_at tree_is g.fid Size) x.host n
    sizes n e =
        subst (λ (z : Cell ℕ). LegalSize z x.host n) (sym (cells g.fid Size))
        (lawful.sizes x.host g n home_is applies (of_run.hosts.gives g Size ∙ e))

    size_after : kept_deeds c (first x ∷ D) g.fid Size ≡ length_given (cell_at tree_is g.fid Size).kept g.length
    size_after =
        ap (λ (d : Does ℕ). kept_after_part Size d (kept_deeds c D g.fid Size))
        (does_is g.fid Size ∙ ap (λ b. if b then stores_some g.length else Nothing) (same_fid_itself g.fid))
        ∙ (size_given g.length (kept_deeds c D g.fid Size)
        ∙ ap (λ n. length_given n g.length) (at.shows g.fid Size home_is ∙ sym (kept_same g.fid Size home_is)))

    bytes : (q n : ℕ) → byte_of g.pieces q ≡ Some n
        → ((cell_at tree_is g.fid (ByteAt q)).unsaved ≡ Some (by x.host n))
        × (q < length_given (cell_at tree_is g.fid Size).kept g.length)
    bytes q n e =
        let b = lawful.bytes x.host g q n home_is applies (of_run.hosts.gives g (ByteAt q) ∙ e) in
        (ap (λ (z : Cell ℕ). z.unsaved) (cells g.fid (ByteAt q)) ∙ b.0, subst (λ n. q < n) size_after b.2)

    abbrev entry : Entry
    entry = StoredEntry h fid spans len

    abbrev its_entry : Entry
    its_entry = StoredEntry x.host g.fid (map span_of g.pieces) g.length

    same_entry : its_entry ≡ entry
    same_entry = λ i. StoredEntry (sym stored.0 i) (sym stored.1 i) (sym stored.2 i) (sym stored.3 i)

    pub legal_store : IsLegal tree_is entry
    legal_store = subst (IsLegal tree_is) same_entry
        (stores_legally tree_is formed x.host g sound.bytes.ends file sizes bytes)

    abbrev does : (f : Fid) (p : Part) → Does (Seen p)
    does f p =
        if same_fid g.fid f
        then stores_part g.pieces g.length (length_given (cell_at tree_is g.fid Size).kept g.length) p else Nothing

    pub cells_stored : (f : Fid) (p : Part) → cell_at (after_entry tree_is entry) f p
        ≡ CausedCells v K s (tree c past) f p
    cells_stored f p =
        ap (λ (e : Entry). cell_at (after_entry tree_is e) f p) (sym same_entry)
        ∙ (stores_cells tree_is formed x.host g sound.bytes.ends file sizes bytes f p
        ∙ go (v.0 == (site f).0) refl)
      where
        elsewhere : (b : Bool) → same_fid g.fid f ≡ b → (v.0 == (site f).0) ≡ false
            → does f p ≡ (let non : Does (Seen p) = Nothing in non)
        elsewhere true q e =
            absurd (eqb-false v.0 (site f).0 e
            (ap (λ (w : ServerId). w.0) (sym home_is ∙ ap site (fid_is g.fid f q))))
        elsewhere false q e =
            ap (λ b. if b
            then stores_part g.pieces g.length (length_given (cell_at tree_is g.fid Size).kept g.length) p else Nothing) q

        go : (b : Bool) → (v.0 == (site f).0) ≡ b → cell_after p (does f p) (cell_at tree_is f p)
            ≡ (if b then cell_after p (does_first s.cause K (by_cause s.applied) f p) (tree c past f p) else tree c past f p)
        go true e = λ i. cell_after p (sym (does_is f p) i) (cells f p i)
        go false e =
            ap (λ (d : Does (Seen p)). cell_after p d (cell_at tree_is f p)) (elsewhere (same_fid g.fid f) refl e)
            ∙ cells f p

  -- what is lost
  module _ (h : HostId) (i : In (IsDown h) s.applied) (homes : AreHome tree_is) where
    down_by : In (IsDown h) (by_cause s.applied)
    down_by = in_cause s.applied (IsDown h) decisions_are i refl

    cause_is : (m : Message) × (s.cause ≡ Came m)
    cause_is = came v S K s k (IsDown h) down_by

    down_alone : by_cause s.applied ≡ IsDown h ∷ []
    down_alone = only_down v S K s k cause_is.0 cause_is.1 h down_by

    loses : (f : Fid) (p : Part)
        → does_first s.cause K (by_cause s.applied) f p ≡ (let lost : Does (Seen p) = Loses h in lost)
    loses f p = ap (λ xs. does_first s.cause K xs f p) down_alone

    abbrev gone : (f : Fid) (p : Part) → Cell (Seen p)
    gone f p = record { kept = (cell_at tree_is f p).kept; unsaved = without h (cell_at tree_is f p).unsaved }

    -- a fileset that is at the server was made there
    at_server : (f : Fid) → is_at tree_is.filesets v f.fileset ≡ true → site f ≡ v
    at_server f e =
        let x = any_in (λ (fileset : Fileset). has_id f.fileset fileset && (fileset.server.0 == v.0)) tree_is.filesets e in
        let q = and_parts (has_id f.fileset x.0) (x.0.server.0 == v.0) x.2 in
        let one : x.0.id ≡ f.fileset = ap (λ (n : ℕ). record { 0 = n }) (eqb-true x.0.id.0 f.fileset.0 q.0) in
        ap (λ (id : FilesetId). home id) (sym one) ∙ (sym (homes x.0 x.1) ∙ server_is x.0.server v q.1)

    -- where none is, nothing is unsaved
    none_there : (f : Fid) (p : Part) → site f ≡ v → is_at tree_is.filesets v f.fileset ≡ false
        → (cell_at tree_is f p).unsaved ≡ None
    none_there f p home_is e = by (find (has_id f.fileset) tree_is.filesets) refl
      where
        by : (o : Option Fileset) → find (has_id f.fileset) tree_is.filesets ≡ o
            → (cell_at tree_is f p).unsaved ≡ None
        by None q = ap (λ (o : Option Fileset). (cell_in o f p).unsaved) q ∙ nothing p
          where
            nothing : (p : Part) → (no_cell p).unsaved ≡ None
            nothing (ByteAt at) = refl
            nothing Size = refl
            nothing Traits = refl
            nothing Entries = refl
        by (Some fileset) q =
            let k = found_in (has_id f.fileset) tree_is.filesets fileset q in
            let one : fileset.id ≡ f.fileset =
            ap (λ (n : ℕ). record { 0 = n }) (eqb-true fileset.id.0 f.fileset.0 k.1) in
            let here : fileset.server ≡ v =
            homes fileset k.0 ∙ (ap (λ (id : FilesetId). home id) one ∙ home_is) in
            absurd (false≢true (sym e
            ∙ in_any (λ (x : Fileset). has_id f.fileset x && (x.server.0 == v.0)) tree_is.filesets fileset k.0
            (both (has_id f.fileset fileset) (fileset.server.0 == v.0) k.1
            (ap (λ (w : ServerId). w.0 == v.0) here ∙ same_number v.0))))

    forgets : (f : Fid) (p : Part) → site f ≡ v
        → after_fate (if is_at tree_is.filesets v f.fileset then IsForgotten h else Stays) (cell_at tree_is f) p ≡ gone f p
    forgets f p home_is = go (is_at tree_is.filesets v f.fileset) refl p
      where
        plain : (p : Part) → (IsData p → ⊥) → (cell_at tree_is f p).unsaved ≡ None
        plain p free =
            ap (λ (z : Cell (Seen p)). z.unsaved) (cells f p) ∙ (kept_now.at v).treed.plain p f home_is free

        go : (b : Bool) → is_at tree_is.filesets v f.fileset ≡ b → (p : Part)
            → after_fate (if b then IsForgotten h else Stays) (cell_at tree_is f) p ≡ gone f p
        go true e (ByteAt at) = refl
        go true e Size = refl
        go true e Traits = nothing_lost h (cell_at tree_is f Traits) (plain Traits (λ z. z))
        go true e Entries = nothing_lost h (cell_at tree_is f Entries) (plain Entries (λ z. z))
        go false e p = nothing_lost h (cell_at tree_is f p) (none_there f p home_is e)

    pub cells_lost : (f : Fid) (p : Part) → cell_at (after_entry tree_is (DownEntry h v)) f p
        ≡ CausedCells v K s (tree c past) f p
    cells_lost f p = parts_change_so tree_is (DownEntry h v) f p formed tt ∙ go (v.0 == (site f).0) refl
      where
        go : (b : Bool) → (v.0 == (site f).0) ≡ b
            → after_fate (if is_at tree_is.filesets v f.fileset then IsForgotten h else Stays) (cell_at tree_is f) p
            ≡ (if b then cell_after p (does_first s.cause K (by_cause s.applied) f p) (tree c past f p) else tree c past f p)
        go true e =
            forgets f p (sym (server_is v (site f) e))
            ∙ (λ i. cell_after p (sym (loses f p) i) (cells f p i))
        go false e = away (is_at tree_is.filesets v f.fileset) refl
          where
            away : (b : Bool) → is_at tree_is.filesets v f.fileset ≡ b
                → after_fate (if b then IsForgotten h else Stays) (cell_at tree_is f) p ≡ tree c past f p
            away true q =
                absurd (eqb-false v.0 (site f).0 e (ap (λ (w : ServerId). w.0) (sym (at_server f q))))
            away false q = cells f p
