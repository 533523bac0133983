-- In a run each step of a server meets the rules of contents.
use Rattle.std.proofs.Common.{Bool, List, Some, [], ap, arith, eqb-true, false, inl, inr, length, nat_le, nat_lt}
use Rattle.std.proofs.Common.{refl, subst, suc, sym, true, ℕ, ◌&&◌, ◌++◌, ◌==◌, ◌∙◌, ◌∷◌, ◌≡◌, ◌≤◌}
use Rattle.std.proofs.lemmas.Bool.{and_parts, eqb-false, false≢true}
use Rattle.std.proofs.lemmas.Grind.{common_steps}
use Rattle.std.specs.List.{find, list_all, list_any}
use Rattle.std.specs.Prelude.{filter, if◌then◌else◌}
use Rattle.base_types.specs.declared.ids.Fid.{Fid}
use Rattle.base_types.specs.declared.ids.FilesetId.{FilesetId}
use Rattle.base_types.specs.declared.ids.HostId.{HostId}
use Rattle.base_types.specs.declared.ids.Node.{Node}
use Rattle.base_types.specs.declared.ids.Node.TheVariants.{Host, Server}
use Rattle.base_types.specs.declared.ids.ServerId.{ServerId}
use Rattle.base_types.specs.declared.limits.TheConstants.{CACHED_TOKENS_MAX, CACHED_TOKENS_MIN, CAPACITY_MAX}
use Rattle.base_types.specs.declared.limits.TheConstants.{CAPACITY_MIN, GROUPS_MAX, HOSTS_MAX, SERVERS_MAX}
use Rattle.tree_calls.specs.Limits.{is_between, keeps_limits}
use Rattle.tree_calls.specs.declared.roster.Roster.{Roster}
use Rattle.tree_filesets.specs.declared.fileset.Fileset.{Fileset}
use Rattle.need_host.specs.Walks.{root_of}
use Rattle.tree_answers.specs.Finding.{has_id}
use Rattle.tree_answers.specs.declared.tree.Tree.{Tree}
use Rattle.message_types.specs.Soundness.{HasRoom}
use Rattle.message_types.specs.declared.message.Body.{Body}
use Rattle.message_types.specs.declared.message.Message.{Message}
use Rattle.script_lines.specs.declared.script.Script.{Script}
use Rattle.token_types.specs.declared.token.Token.{Token}
use Rattle.tree_laws.specs.Parts.{cell_in}
use Rattle.tree_laws.specs.Parts.Part.{Traits}
use Rattle.run_rules.specs.Doings.{Doing, Granted, admitting, after_admitting, after_cause, after_deciding, after_step}
use Rattle.run_rules.specs.Doings.{deciding, doings_of, epoch, sending}
use Rattle.run_rules.specs.Doings.Doing.{Gets}
use Rattle.run_rules.specs.Doings.Doing.{Admits, BeginsEpoch, Flushes, MakesWant, Moves, Reserves, Sent, Took}
use Rattle.run_rules.specs.Doings.Doing.{WritesDown}
use Rattle.run_rules.specs.Kept.{filesets_after, filesets_kept, filesets_through}
use Rattle.run_rules.specs.Messages.{Said, home}
use Rattle.run_rules.specs.Past.{EachInTurn, In, appended}
use Rattle.run_rules.specs.Runs.{IsRun, StepMeets, StepsMeet, firsts_of, past_of}
use Rattle.run_rules.specs.ServerDecides.{MayDecideAll, by_cause, decisions}
use Rattle.run_rules.specs.ServerMay.{MaySend, ServerWorks}
use Rattle.run_rules.specs.ServerTokens.{ServerStep, ServerTokens}
use Rattle.run_rules.specs.Steps.{is_node, steps_of_host, steps_of_server}
use Rattle.run_rules.specs.declared.applied.Applied.TheVariants.{Done as IsDone, IsDown, Replied, Stored}
use Rattle.run_rules.specs.declared.applied.Applied.TheVariants.{Moves as IsMoved, Wants as IsWanted}
use Rattle.run_parts.proofs.Served.{after_doings}
use Rattle.run_parts.specs.Doings.{doings, doings_cause}
use Rattle.run_rules.specs.declared.journal.Journal.{Journal}
use Rattle.run_parts.specs.Contents.{AreAlike, Contents, HaveRoots, ServerShows}
use Rattle.run_parts.specs.Deeds.{Deed, acts_in}
use Rattle.run_parts.specs.Legal.{ContentsRun, StepShows, served as served_deeds, served_after}
use Rattle.run_contents.proofs.Alike.{filesets_are_alike}
use Rattle.run_contents.proofs.Bodies.{server_is}
use Rattle.run_contents.proofs.Caused.{at_first, first_deed as caused_deed, no_message, shows_first}
use Rattle.run_contents.proofs.Changed.{changed_at, shows_change}
use Rattle.run_contents.proofs.Grants.{AllTaken, Heard, all_taken, causes as causes_taken, same_decisions, taken_took}
use Rattle.run_contents.proofs.Grants.{wanted, written_down}
use Rattle.run_contents.proofs.Keeping.{cause_kept, sizes, split, written_sound}
use Rattle.run_contents.proofs.Sent.{At, fine_sent, quiet, unsent}
use Rattle.run_contents.proofs.Servers.{cause_heard, heard}
use Rattle.run_contents.proofs.Shown.{host_shows}
use Rattle.run_contents.proofs.Starts.{starts_kept}
use Rattle.run_contents.proofs.Tokens.{AllGood, all_good, causes as causes_good, plain}
use Rattle.run_contents.specs.Doing.{Effect, at_home, decided, deeds_at, deeds_of, does_first, does_nothing, with_doing}
use Rattle.run_contents.specs.Doing.{writes}
use Rattle.run_contents.specs.Gives.{IsKept}
use Rattle.run_contents.specs.Instance.{IsOfRun, RunsMeetContents}
use Rattle.run_contents.specs.Steps.{IsOfJournal}
use Rattle.run_tokens.proofs.Words.{acts_after}
use Rattle.run_rules.specs.declared.applied.Admission.{Admission}
use Rattle.run_rules.specs.declared.applied.Applied.{Applied}
use Rattle.run_rules.specs.declared.applied.Wanted.{Wanted}
use Rattle.run_rules.specs.declared.step.Cause.{Cause}
use Rattle.run_rules.specs.declared.step.Cause.TheVariants.{End, Evict, Flushed, Freight, Lapse, Line, Message as Came}
use Rattle.run_rules.specs.declared.step.Cause.TheVariants.{Restart}
use Rattle.run_tokens.specs.Unmoved.{MovesNone, MovesOne, is_move}
use Rattle.run_tokens.proofs.Unmoved.{put_on}
use Rattle.run_tokens.proofs.TokenRun.{none_moves}
use Rattle.run_rules.specs.Doings.Doing.{Puts}
use Rattle.run_rules.specs.Doings.{shipped_by_body, shipping}
use Rattle.run_rules.specs.declared.step.Step.{Step}

-- the deeds of the rest of a step meet the rules, and what is kept after them is what the kept filesets show
record Ends_so (c : Contents) (v : ServerId) (D deeds : List Deed) (tree : Tree) : Type 0 where
  all : EachInTurn (ServerShows c v) deeds D
  last : At c v (appended deeds D) tree

module _ (c : Contents) (v : ServerId) where
  no_more : (D : List Deed) (tree : Tree) → At c v D tree → Ends_so c v D [] tree
  no_more D tree at = record { all = tt; last = at }

  one_more : (D : List Deed) (d : Deed) (more : List Deed) (tree : Tree) → ServerShows c v D d
      → Ends_so c v (d ∷ D) more tree → Ends_so c v D (d ∷ more) tree
  one_more D d more tree shows rest = record { all = (shows, rest.all); last = rest.last }

  -- a doing that does nothing to parts leaves what is kept
  abbrev idle : Doing → Deed
  idle a = record { act = a; does = does_nothing }

  still : (D : List Deed) (tree : Tree) (a : Doing) → (MovesOne a → ⊥) → At c v D tree → At c v (idle a ∷ D) tree
  still D tree a none at = record { put = put_on a (acts_in D) none at.put; shows = at.shows; keeps = at.keeps }

-- what waits was taken, through what makes no want
taken_on : (S : List Doing) (a : Doing) → ((w : Wanted) → a ≡ MakesWant w → ⊥) → AllTaken S → AllTaken (a ∷ S)
taken_on S a never old w (inl e) = absurd (never w e)
taken_on S a never old w (inr k) = inr (old w k.0, λ b. k.1 (inr (inr (inr b))))

module _ (c : Contents) (same : IsOfJournal c) (v : ServerId) (s : Step) where
  sents : (tree : Tree) (ms : List Message) (more : List Doing) (D : List Deed) → At c v D tree → AllTaken (acts_in D)
      → EachInTurn (MaySend v tree s) (sending ms) (acts_in D) → EachInTurn (ServerTokens v) (sending ms) (acts_in D)
      → ((D' : List Deed) → At c v D' tree → Ends_so c v D' (with_doing does_nothing more) tree)
      → Ends_so c v D (with_doing does_nothing (sending ms ++ more)) tree
  sents tree [] more D at taken may tokens rest = rest D at
  sents tree (m ∷ ms) more D at taken may tokens rest =
      let a = Sent m.host m.epoch m.moves m.body in
      one_more c v D (idle c v a) (with_doing does_nothing (sending ms ++ more)) tree
      (quiet c v same.root D tree a at (fine_sent c v tree s same.tells D a at taken may.0 tokens.0)
      (λ h e n b q. let r : Sent m.host m.epoch m.moves m.body ≡ Took h e n b = q in cc))
      (sents tree ms more (idle c v a ∷ D) (still c v D tree a (λ p. let q = p.1 in cc) at)
      (taken_on (acts_in D) a (λ w q. let r : Sent m.host m.epoch m.moves m.body ≡ MakesWant w = q in cc) taken)
      may.1 tokens.1 rest)

  ships : (tree : Tree) (ms : List Message) (more : List Doing) (D : List Deed) → At c v D tree
      → ((D' : List Deed) → At c v D' tree → Ends_so c v D' (with_doing does_nothing more) tree)
      → Ends_so c v D (with_doing does_nothing (shipping ms ++ more)) tree
  ships tree [] more D at rest = rest D at
  ships tree (m ∷ ms) more D at rest =
      let to = shipped_by_body m.body m.server in
      let a = Puts to m.moves m.body in
      one_more c v D (idle c v a) (with_doing does_nothing (shipping ms ++ more)) tree
      (quiet c v same.root D tree a at
      (unsent c v D a (λ h e n b q. let r : Puts to m.moves m.body ≡ Sent h e n b = q in cc))
      (λ h e n b q. let r : Puts to m.moves m.body ≡ Took h e n b = q in cc))
      (ships tree ms more (idle c v a ∷ D) (still c v D tree a (λ p. let q = p.1 in cc) at) rest)

  admits : (tree : Tree) (cs : List Admission) (more : List Doing) (D : List Deed) → At c v D tree → AllTaken (acts_in D)
      → ((D' : List Deed) → acts_in D' ≡ appended (admitting cs) (acts_in D) → At c v D' tree → AllTaken (acts_in D')
      → Ends_so c v D' (with_doing does_nothing more) tree)
      → Ends_so c v D (with_doing does_nothing (admitting cs ++ more)) tree
  admits tree [] more D at taken rest = rest D refl at taken
  admits tree (x ∷ cs) more D at taken rest =
      let a = Admits x.host x.tokens in
      one_more c v D (idle c v a) (with_doing does_nothing (admitting cs ++ more)) tree
      (quiet c v same.root D tree a at
      (unsent c v D a (λ h e n b q. let r : Admits x.host x.tokens ≡ Sent h e n b = q in cc))
      (λ h e n b q. let r : Admits x.host x.tokens ≡ Took h e n b = q in cc))
      (admits tree cs more (idle c v a ∷ D) (still c v D tree a (λ p. let q = p.1 in cc) at)
      (taken_on (acts_in D) a (λ w q. let r : Admits x.host x.tokens ≡ MakesWant w = q in cc) taken) rest)

module _ (script : Script) (start : Tree) (firsts : ServerId → ℕ) (past : List Step)
    (run : StepsMeet script start firsts past) (v : ServerId) (s : Step) (c : Contents) (same : IsOfJournal c)
    (limit : length script.roster.hosts ≤ 16) where
  abbrev before : List Doing
  before = doings_of (firsts v) v past

  abbrev AllSaid : List Doing → Type 0
  AllSaid S = (h : HostId) (e n : ℕ) (b : Body) → In (Took h e n b) S → Said (steps_of_host h past) v e n b

  on_said : (S : List Doing) (a : Doing) → ((h : HostId) (e n : ℕ) (b : Body) → Took h e n b ≡ a → ⊥) → AllSaid S
      → AllSaid (a ∷ S)
  on_said S a never old h e n b (inl q) = absurd (never h e n b q)
  on_said S a never old h e n b (inr i) = old h e n b i

  good_host : (S : List Doing) → AllGood script v S → (t : Token) → Granted v S t → (t.host.0 ≤ 16) × HasRoom t.kind
  good_host S good t g =
      let k = good t g in
      let low : t.host.0 ≤ length script.roster.hosts = k.0 in
      let most = limit in
      (omega (arith, low, most), k.1)

  decides : (xs : List Applied) (S0 : List Doing) (tree last : Tree) (more D : List Deed)
      → MayDecideAll v tree S0 (acts_in D) s xs → At c v D tree → AllTaken (acts_in D) → Heard v S0 s (acts_in D)
      → AllSaid (acts_in D) → AllGood script v (acts_in D)
      → ((D' : List Deed) → acts_in D' ≡ appended (deciding xs) (acts_in D) → At c v D' (filesets_through s.cause xs tree)
      → AllTaken (acts_in D') → Ends_so c v D' more last)
      → Ends_so c v D (decided v s.cause tree xs ++ more) last
  decides [] S0 tree last more D may at taken heard said good rest = rest D refl at taken
  decides (IsWanted x ∷ xs) S0 tree last more D may at taken heard said good rest =
      let q = wanted v S0 s x tree (acts_in D) may.0 taken heard in
      one_more c v D (idle c v (MakesWant x)) (decided v s.cause tree xs ++ more) last
      (quiet c v same.root D tree (MakesWant x) at
      (unsent c v D (MakesWant x) (λ h e n b q. let r : MakesWant x ≡ Sent h e n b = q in cc))
      (λ h e n b q. let r : MakesWant x ≡ Took h e n b = q in cc))
      (decides xs S0 tree last more (idle c v (MakesWant x) ∷ D) may.1 (still c v D tree (MakesWant x) (λ p. let q = p.1 in cc) at) q.0 q.1
      (on_said (acts_in D) (MakesWant x) (λ h e n b p. cc) said)
      (plain script v (acts_in D) (MakesWant x) (λ h e n b q. cc) (λ h ts q. cc) good) rest)
  decides (IsDone x ∷ xs) S0 tree last more D may at taken heard said good rest =
      let q = written_down v S0 s x (acts_in D) taken heard in
      let d : Deed = record { act = WritesDown x; does = at_home v (writes s.cause tree x) } in
      let sound = written_sound script start firsts past run v s tree (acts_in D) taken said x may.0 in
      let host = good_host (acts_in D) good in
      one_more c v D d (decided v s.cause (filesets_after s.cause tree (IsDone x)) xs ++ more) last
      (shows_change c v tree s.cause D x at may.0 host sound same.root)
      (decides xs S0 (filesets_after s.cause tree (IsDone x)) last more (d ∷ D) may.1
      (changed_at c v tree s.cause D x at may.0 host sound same.root) q.0 q.1
      (on_said (acts_in D) (WritesDown x) (λ h e n b p. cc) said)
      (plain script v (acts_in D) (WritesDown x) (λ h e n b q. cc) (λ h ts q. cc) good) rest)
  decides (Replied x ∷ xs) S0 tree last more D may at taken heard said good rest = elim may.0 [ ]
  decides (Stored h f ss n ∷ xs) S0 tree last more D may at taken heard said good rest = elim may.0 [ ]
  decides (IsDown h ∷ xs) S0 tree last more D may at taken heard said good rest = elim may.0 [ ]
  decides (IsMoved move ∷ xs) S0 tree last more D may at taken heard said good rest = elim may.0 [ ]

  -- what a step is given
  module _ (tree : Tree) where
    abbrev caused : Tree
    caused = filesets_through s.cause (by_cause s.applied) tree

    abbrev done : Tree
    done = filesets_through s.cause s.applied tree

    record Given (S : List Doing) : Type 0 where
      works : ServerWorks v tree S s
      tokens : ServerStep v S s
      taken : AllTaken (after_cause s.cause S)
      heard : Heard v S s (after_cause s.cause S)
      said : AllSaid (after_cause s.cause S)
      good : AllGood script v (after_cause s.cause S)
      kept : IsKept caused
      none : MovesNone s

    module _ (D : List Deed) (at : At c v D tree) (g : Given (acts_in D)) where
      abbrev S : List Doing
      S = acts_in D

      abbrev tail : List Doing
      tail = admitting s.admitted ++ (sending s.sent ++ (shipping s.shipped ++ (Reserves s.reserved ∷ [])))

      abbrev rest : List Deed
      rest = decided v s.cause caused (decisions s.applied) ++ with_doing does_nothing tail

      -- what is sent, and kept by the exporter
      sent_last : (D' : List Deed) → acts_in D' ≡ after_deciding s S → At c v D' done → AllTaken (acts_in D')
          → Ends_so c v D' (with_doing does_nothing tail) done
      sent_last D' e at' taken =
          admits c same v s done s.admitted (sending s.sent ++ (shipping s.shipped ++ (Reserves s.reserved ∷ []))) D' at'
          taken
          (λ D'' f at'' taken''.
          let all : acts_in D'' ≡ after_admitting s S = f ∙ ap (appended (admitting s.admitted)) e in
          sents c same v s done s.sent (shipping s.shipped ++ (Reserves s.reserved ∷ [])) D'' at'' taken''
          (subst (EachInTurn (MaySend v done s) (sending s.sent)) (sym all) g.works.sends)
          (subst (EachInTurn (ServerTokens v) (sending s.sent)) (sym all) g.tokens.sends)
          (λ E' at'''. ships c same v s done s.shipped (Reserves s.reserved ∷ []) E' at''' (λ E at.
          let a = Reserves s.reserved in
          one_more c v E (idle c v a) [] done
          (quiet c v same.root E done a at
          (unsent c v E a (λ h e n b q. let r : Reserves s.reserved ≡ Sent h e n b = q in cc))
          (λ h e n b q. let r : Reserves s.reserved ≡ Took h e n b = q in cc))
          (no_more c v (idle c v a ∷ E) done (still c v E done a (λ p. let q = p.1 in cc) at)))))

      -- what is decided
      from_cause : (D' : List Deed) → acts_in D' ≡ after_cause s.cause S → At c v D' caused → Ends_so c v D' rest done
      from_cause D' e at' =
          decides (decisions s.applied) S caused done (with_doing does_nothing tail) D'
          (subst (λ T. MayDecideAll v caused S T s (decisions s.applied)) (sym e) g.works.decides) at'
          (subst AllTaken (sym e) g.taken) (subst (Heard v S s) (sym e) g.heard) (subst AllSaid (sym e) g.said)
          (subst (AllGood script v) (sym e) g.good)
          (λ D'' f at'' taken.
          sent_last D''
          (f ∙ (ap (appended (deciding (decisions s.applied))) e ∙ sym (same_decisions s.applied (after_cause s.cause S) g.none)))
          (subst (At c v D'') (sym (split s.cause s.applied tree)) at'') taken)

      -- where no message comes the cause applies nothing
      abbrev firstly : List Applied → Doing → Deed
      firstly xs a = record { act = a; does = does_first s.cause tree xs }

      without : (a : Doing) → by_cause s.applied ≡ [] → ((h : HostId) (e n : ℕ) (b : Body) → a ≡ Sent h e n b → ⊥)
          → ((h : HostId) (e n : ℕ) (b : Body) → a ≡ Took h e n b → ⊥) → (MovesOne a → ⊥)
          → a ∷ S ≡ after_cause s.cause S → Ends_so c v D (firstly (by_cause s.applied) a ∷ rest) done
      without a none no_send no_take moves_none e =
          subst (λ xs. Ends_so c v D (firstly xs a ∷ rest) done) (sym none)
          (one_more c v D (firstly [] a) rest done
          (quiet c v same.root D tree a at (unsent c v D a no_send) no_take)
          (from_cause (firstly [] a ∷ D) e
          (subst (λ xs. At c v (firstly [] a ∷ D) (filesets_through s.cause xs tree)) (sym none) (still c v D tree a moves_none at))))

      bare : by_cause s.applied ≡ [] → S ≡ after_cause s.cause S → Ends_so c v D rest done
      bare none e =
          from_cause D e (subst (λ xs. At c v D (filesets_through s.cause xs tree)) (sym none) at)

      causes : (x : Cause) → s.cause ≡ x → Ends_so c v D
          (with_doing (does_first s.cause tree (by_cause s.applied)) (doings_cause x S []) ++ rest) done
      causes (Came m) e =
          one_more c v D (caused_deed c v D tree s same g.works.applies at m e) rest done
          (shows_first c v D tree s same g.works.applies at m e g.kept)
          (from_cause (caused_deed c v D tree s same g.works.applies at m e ∷ D) (ap (λ x. after_cause x S) (sym e))
          (at_first c v D tree s same g.works.applies at m e g.kept))
      causes (Restart line) e =
          without (BeginsEpoch (suc (epoch S))) (no_message v S tree s g.works.applies (λ m q.
          let r : Restart line ≡ Came m = sym e ∙ q in cc))
          (λ h d n b q. let r : BeginsEpoch (suc (epoch S)) ≡ Sent h d n b = q in cc)
          (λ h d n b q. let r : BeginsEpoch (suc (epoch S)) ≡ Took h d n b = q in cc) (λ p. let q = p.1 in cc) (ap (λ x. after_cause x S) (sym e))
      causes Flushed e =
          without Flushes (no_message v S tree s g.works.applies (λ m q. let r : Flushed ≡ Came m = sym e ∙ q in cc))
          (λ h d n b q. let r : Flushes ≡ Sent h d n b = q in cc)
          (λ h d n b q. let r : Flushes ≡ Took h d n b = q in cc) (λ p. let q = p.1 in cc) (ap (λ x. after_cause x S) (sym e))
      causes (Line line) e =
          bare (no_message v S tree s g.works.applies (λ m q. let r : Line line ≡ Came m = sym e ∙ q in cc))
          (ap (λ x. after_cause x S) (sym e))
      causes Lapse e =
          bare (no_message v S tree s g.works.applies (λ m q. let r : Lapse ≡ Came m = sym e ∙ q in cc))
          (ap (λ x. after_cause x S) (sym e))
      causes Evict e =
          bare (no_message v S tree s g.works.applies (λ m q. let r : Evict ≡ Came m = sym e ∙ q in cc))
          (ap (λ x. after_cause x S) (sym e))
      causes (Freight freight) e =
          without (Gets freight.server freight.moves freight.body) (no_message v S tree s g.works.applies (λ m q. let r : (Freight freight) ≡ Came m = sym e ∙ q in cc))
          (λ h d n b q. let r : Gets freight.server freight.moves freight.body ≡ Sent h d n b = q in cc)
          (λ h d n b q. let r : Gets freight.server freight.moves freight.body ≡ Took h d n b = q in cc) (λ p. let q = p.1 in cc) (ap (λ x. after_cause x S) (sym e))
      causes End e =
          bare (no_message v S tree s g.works.applies (λ m q. let r : End ≡ Came m = sym e ∙ q in cc))
          (ap (λ x. after_cause x S) (sym e))

      step_shows : Ends_so c v D (deeds_of v tree S s) done
      step_shows = causes s.cause refl

-- the doings of the deeds are the step's
in_both : (xs ys : List Deed) → acts_in (xs ++ ys) ≡ acts_in xs ++ acts_in ys
in_both [] ys = refl
in_both (x ∷ xs) ys = ap (λ zs. x.act ∷ zs) (in_both xs ys)

in_doing : (doing : Effect) (xs : List Doing) → acts_in (with_doing doing xs) ≡ xs
in_doing doing [] = refl
in_doing doing (x ∷ xs) = ap (λ zs. x ∷ zs) (in_doing doing xs)

in_decided : (v : ServerId) (cause : Cause) (xs : List Applied) (tree : Tree)
    → acts_in (decided v cause tree xs) ≡ deciding xs
in_decided v cause [] tree = refl
in_decided v cause (IsWanted x ∷ xs) tree = ap (λ zs. MakesWant x ∷ zs) (in_decided v cause xs tree)
in_decided v cause (IsDone x ∷ xs) tree =
    ap (λ zs. WritesDown x ∷ zs) (in_decided v cause xs (filesets_after cause tree (IsDone x)))
in_decided v cause (Replied x ∷ xs) tree = in_decided v cause xs tree
in_decided v cause (Stored h f ss n ∷ xs) tree = in_decided v cause xs tree
in_decided v cause (IsDown h ∷ xs) tree = in_decided v cause xs tree
in_decided v cause (IsMoved move ∷ xs) tree = ap (λ zs. Moves move ∷ zs) (in_decided v cause xs tree)

only_decisions : (xs : List Applied) → list_any is_move xs ≡ false → deciding (decisions xs) ≡ deciding xs
only_decisions [] none = refl
only_decisions (IsWanted x ∷ xs) none = refl
only_decisions (IsDone x ∷ xs) none = refl
only_decisions (Replied x ∷ xs) none = only_decisions xs none
only_decisions (Stored h f ss n ∷ xs) none = only_decisions xs none
only_decisions (IsDown h ∷ xs) none = only_decisions xs none
only_decisions (IsMoved move ∷ xs) none = absurd (cc)

cause_first : (x : Cause) (S more : List Doing) → doings_cause x S [] ++ more ≡ doings_cause x S more
cause_first (Came m) S more = refl
cause_first (Restart line) S more = refl
cause_first Flushed S more = refl
cause_first (Line line) S more = refl
cause_first Lapse S more = refl
cause_first Evict S more = refl
cause_first (Freight freight) S more = refl
cause_first End S more = refl

acts_of : (v : ServerId) (tree : Tree) (S : List Doing) (s : Step) → MovesNone s → acts_in (deeds_of v tree S s) ≡ doings s S
acts_of v tree S s none =
    let tail = admitting s.admitted ++ (sending s.sent ++ (shipping s.shipped ++ (Reserves s.reserved ∷ []))) in
    let caused = filesets_through s.cause (by_cause s.applied) tree in
    let first = with_doing (does_first s.cause tree (by_cause s.applied)) (doings_cause s.cause S []) in
    let middle = decided v s.cause caused (decisions s.applied) in
    in_both first (middle ++ with_doing does_nothing tail)
    ∙ (ap (λ zs. zs ++ acts_in (middle ++ with_doing does_nothing tail))
    (in_doing (does_first s.cause tree (by_cause s.applied)) (doings_cause s.cause S []))
    ∙ (ap (λ zs. doings_cause s.cause S [] ++ zs)
    (in_both middle (with_doing does_nothing tail)
    ∙ (ap (λ zs. zs ++ acts_in (with_doing does_nothing tail))
    (in_decided v s.cause (decisions s.applied) caused ∙ only_decisions s.applied none)
    ∙ ap (λ zs. deciding s.applied ++ zs) (in_doing does_nothing tail)))
    ∙ cause_first s.cause S (deciding s.applied ++ tail)))

acts_after_deeds : (deeds D : List Deed) → acts_in (appended deeds D) ≡ appended (acts_in deeds) (acts_in D)
acts_after_deeds [] D = refl
acts_after_deeds (d ∷ deeds) D = acts_after_deeds deeds (d ∷ D)

-- all steps of a run
module _ (script : Script) (start : Tree) (firsts : ServerId → ℕ) (c : Contents) (of_run : IsOfRun start firsts c)
    (limit : length script.roster.hosts ≤ 16) where
  -- what a server has done, and keeps
  pub record Stands (v : ServerId) (D : List Deed) (S : List Doing) (L : List Step) : Type 0 where
    pub doings_are : acts_in D ≡ S
    pub at : At c v D (filesets_kept start v L)

  abbrev pub StandsNow : List Step → ServerId → Type 0
  StandsNow past v = Stands v (served_deeds c (firsts v) v past) (doings_of (firsts v) v past) (steps_of_server v past)

  given : (past : List Step) (run : StepsMeet script start firsts past) (v : ServerId) (s : Step)
      → StepMeets script start firsts (Server v) past s → IsKept (filesets_kept start v (steps_of_server v past))
      → Given script start firsts past run v s c of_run.hosts limit (filesets_kept start v (steps_of_server v past))
      (doings_of (firsts v) v past)
  given past run v s m keeps =
      let S = doings_of (firsts v) v past in
      record {
        works = m.0.works;
        tokens = m.0.tokens;
        taken = causes_taken s.cause S (all_taken script start firsts past run v);
        heard = taken_took S s;
        said = λ h e n b i. cause_heard h e n b script start firsts past run v s m.1
            (heard h e n b script start firsts past run v) i;
        good = causes_good script v s.cause S (all_good script start firsts past run v);
        kept = cause_kept script start firsts past run v s m s.applied (filesets_kept start v (steps_of_server v past))
            (sizes script start firsts past run v s m) keeps;
        none = none_moves script start firsts (Server v) past s m;
      }

  -- a step of a server
  module _ (past : List Step) (run : StepsMeet script start firsts past) (v : ServerId) (s : Step)
      (m : StepMeets script start firsts (Server v) past s)
      (deeds_are : c.deeds past s ≡ deeds_at start firsts (Server v) past s) (k : StandsNow past v) where
    abbrev D : List Deed
    D = served_deeds c (firsts v) v past

    abbrev tree : Tree
    tree = filesets_kept start v (steps_of_server v past)

    same_deeds : c.deeds past s ≡ deeds_of v tree (acts_in D) s
    same_deeds = deeds_are ∙ ap (λ S. deeds_of v tree S s) (sym k.doings_are)

    ends : Ends_so c v D (c.deeds past s) (filesets_kept start v (s ∷ steps_of_server v past))
    ends =
        subst (λ deeds. Ends_so c v D deeds (filesets_through s.cause s.applied tree)) (sym same_deeds)
        (step_shows script start firsts past run v s c of_run.hosts limit tree D k.at
        (subst (Given script start firsts past run v s c of_run.hosts limit tree) (sym k.doings_are)
        (given past run v s m k.at.keeps)))

    acts_are : acts_in (c.deeds past s) ≡ doings s (acts_in D)
    acts_are =
        ap acts_in same_deeds ∙ acts_of v tree (acts_in D) s (none_moves script start firsts (Server v) past s m)

    next_stands : Stands v (appended (c.deeds past s) D) (after_step s (doings_of (firsts v) v past)) (s ∷ steps_of_server v past)
    next_stands = record {
      doings_are = acts_after_deeds (c.deeds past s) D
          ∙ (ap (λ doing. appended doing (acts_in D)) acts_are ∙ (after_doings s (acts_in D) ∙ ap (after_step s) k.doings_are));
      at = ends.last;
    }

  at_node : (n : Node) (past : List Step) (s : Step) → c.deeds past s ≡ deeds_at start firsts n past s
      → StepsMeet script start firsts past → StepMeets script start firsts n past s
      → ((v : ServerId) → StandsNow past v) → StepShows c firsts n past s
  at_node (Host h) past s deeds run m all = host_shows script start firsts c of_run.hosts h past s run m
  at_node (Server v) past s deeds run m all =
      (acts_are past run v s m deeds (all v), (ends past run v s m deeds (all v)).all)

  next : (n : Node) (past : List Step) (s : Step) → c.deeds past s ≡ deeds_at start firsts n past s
      → StepsMeet script start firsts past → StepMeets script start firsts n past s
      → ((v : ServerId) → StandsNow past v) → (v : ServerId)
      → Stands v (served_after c v n s past (served_deeds c (firsts v) v past))
      (acts_after v n s (doings_of (firsts v) v past)) (if is_node n (Server v) then s ∷ steps_of_server v past else steps_of_server v past)
  next (Host h) past s deeds run m all v = all v
  next (Server k) past s deeds run m all v = go (k.0 == v.0) refl
    where
      go : (b : Bool) → (k.0 == v.0) ≡ b
          → Stands v (if b then appended (c.deeds past s) (served_deeds c (firsts v) v past)
          else served_deeds c (firsts v) v past)
          (if b then after_step s (doings_of (firsts v) v past) else doings_of (firsts v) v past)
          (if b then s ∷ steps_of_server v past else steps_of_server v past)
      go true e =
          subst (λ (w : ServerId). Stands w (appended (c.deeds past s) (served_deeds c (firsts w) w past))
          (after_step s (doings_of (firsts w) w past)) (s ∷ steps_of_server w past)) (server_is k v e)
          (next_stands past run k s m deeds (all k))
      go false e = all v

  module _ (starts : (v : ServerId) → StandsNow [] v) (alike : (v : ServerId) → AreAlike c v [] × HaveRoots c v []) where
    pub all_stand : (past : List Step) → StepsMeet script start firsts past → (v : ServerId) → StandsNow past v
    all_stand [] run v = starts v
    all_stand (s ∷ past) run v =
        next s.node past s (of_run.deeds past s) run.0 run.1.0 (all_stand past run.0) v

    all_meet : (past : List Step) → StepsMeet script start firsts past → ContentsRun c firsts past
    all_meet [] run = alike
    all_meet (s ∷ past) run = (
      all_meet past run.0,
      at_node s.node past s (of_run.deeds past s) run.0 run.1.0 (all_stand past run.0),
    )

-- with what servers start
module _ (id : FilesetId) (v : ServerId) (home_is : home id ≡ v) where
  found_there : (xs : List Fileset)
      → list_all (λ fileset. (fileset.server.0 == (home fileset.id).0) && (fileset.moves == 0)) xs ≡ true
      → find (has_id id) (filter (λ fileset. fileset.server.0 == v.0) xs) ≡ find (has_id id) xs
  found_there [] h = refl
  found_there (x ∷ xs) h = go (x.server.0 == v.0) (has_id id x) refl refl (found_there xs q.1)
    where
      q : (((x.server.0 == (home x.id).0) && (x.moves == 0)) ≡ true)
          × (list_all (λ fileset. (fileset.server.0 == (home fileset.id).0) && (fileset.moves == 0)) xs ≡ true)
      q = and_parts ((x.server.0 == (home x.id).0) && (x.moves == 0))
          (list_all (λ (fileset : Fileset). (fileset.server.0 == (home fileset.id).0) && (fileset.moves == 0)) xs) h

      here : has_id id x ≡ true → x.server.0 ≡ v.0
      here its =
          let number : x.id.0 ≡ id.0 = eqb-true x.id.0 id.0 its in
          let one : x.id ≡ id = (λ i. record { 0 = number i }) in
          eqb-true x.server.0 (home x.id).0 (and_parts (x.server.0 == (home x.id).0) (x.moves == 0) q.0).0
          ∙ (ap (λ (j : FilesetId). (home j).0) one ∙ ap (λ (w : ServerId). w.0) home_is)

      go : (b t : Bool) → (x.server.0 == v.0) ≡ b → has_id id x ≡ t
          → find (has_id id) (filter (λ fileset. fileset.server.0 == v.0) xs) ≡ find (has_id id) xs
          → find (has_id id) (if b then x ∷ filter (λ fileset. fileset.server.0 == v.0) xs
          else filter (λ fileset. fileset.server.0 == v.0) xs)
          ≡ (if t then Some x else find (has_id id) xs)
      go true t e f others =
          ap (λ a. if a then Some x else find (has_id id) (filter (λ fileset. fileset.server.0 == v.0) xs)) f
          ∙ ap (λ o. if t then Some x else o) others
      go false true e f others = absurd (eqb-false x.server.0 v.0 e (here f))
      go false false e f others = others

second : (a b c d e : Bool) → (a && b && c && d && e) ≡ true → b ≡ true
second true true c d e q = refl
second true false c d e q = q
second false b c d e q = absurd (false≢true q)

hosts_limit : (roster : Roster) → keeps_limits roster ≡ true → length roster.hosts ≤ 16
hosts_limit roster e =
    let test : nat_le (length roster.hosts) 16 ≡ true =
    second (is_between 1 SERVERS_MAX (length roster.capacity)) (nat_le (length roster.hosts) HOSTS_MAX)
    (list_all (is_between CAPACITY_MIN CAPACITY_MAX) roster.capacity)
    (list_all (λ user. is_between 1 GROUPS_MAX (length user.groups)) roster.users)
    (list_all (λ line. nat_lt line.user (length roster.users)
    && is_between CACHED_TOKENS_MIN CACHED_TOKENS_MAX line.limit) roster.hosts) e in
    grind (arith, common_steps, test)

module _ (script : Script) (journal : Journal) (run : IsRun script journal) (c : Contents)
    (of_run : IsOfRun run.start (firsts_of journal) c) where
  pub limit : length script.roster.hosts ≤ 16
  limit =
      subst (λ (r : Roster). length r.hosts ≤ 16) run.roster
      (hosts_limit run.start.roster run.valid.well_formed.roster)

  starts : (v : ServerId) → StandsNow script run.start (firsts_of journal) c of_run limit [] v
  starts v = record {
    doings_are = refl;
    at = record {
      put = λ o. elim o [ inl p ↦ (let q = p.1 in cc) | inr n ↦ elim n [ ] ];
      shows = λ f p home_is. of_run.start_is f p
          ∙ sym (ap (λ o. (cell_in o f p).kept) (found_there f.fileset v home_is run.start.filesets run.valid.at_home));
      keeps = starts_kept run.start v
          (record { formed = run.valid.well_formed; rests = run.valid.at_rest }) run.valid.unmoved;
    };
  }

  alike : (v : ServerId) → AreAlike c v [] × HaveRoots c v []
  alike v =
      let all = filesets_are_alike run.start run.valid.well_formed in (
        (λ f g a b home one e d. all.alike f g a b one (sym (of_run.start_is f Traits) ∙ e)
            (sym (of_run.start_is g Traits) ∙ d)),
        (λ fs a home e. all.roots fs a (sym (of_run.start_is (root_of fs) Traits)
            ∙ (ap (λ (f : Fid). c.start f Traits) (sym (of_run.hosts.root fs)) ∙ e))),
      )

  -- what each server keeps by its deeds is what its kept filesets show
  pub deeds_stand : (past : List Step) → StepsMeet script run.start (firsts_of journal) past → (v : ServerId)
      → StandsNow script run.start (firsts_of journal) c of_run limit past v
  deeds_stand past steps v =
      all_stand script run.start (firsts_of journal) c of_run limit starts alike past steps v

  pub deeds_meet : (past : List Step) → StepsMeet script run.start (firsts_of journal) past
      → ContentsRun c (firsts_of journal) past
  deeds_meet past steps = all_meet script run.start (firsts_of journal) c of_run limit starts alike past steps

pub runs_meet : RunsMeetContents
runs_meet script journal run c of_run = deeds_meet script journal run c of_run (past_of journal) run.steps
