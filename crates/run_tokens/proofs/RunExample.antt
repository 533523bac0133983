-- The small run is a run of its script.
use Rattle.std.proofs.Common.{List, [], ap, arith, codes, inl, inr, refl, subst, sym, ℕ, ◌<◌, ◌∙◌, ◌∷◌, ◌≡◌, ◌⊎◌}
use Rattle.base_types.specs.declared.ids.ServerId.{ServerId}
use Rattle.message_types.specs.Soundness.{Goes, HasMoves, IsBody, IsSound}
use Rattle.run_rules.specs.Doings.{SentTo, doings_of}
use Rattle.run_rules.specs.Messages.{HasBye}
use Rattle.run_rules.specs.Messages.{HasGreeted, HasStopped, Said, home}
use Rattle.run_rules.specs.Past.{In}
use Rattle.run_rules.specs.Runs.{CameToHost, CameToServer, FlagsMet, HostIsDone, IsFrom, IsRun, IsValid, StepsMeet}
use Rattle.run_rules.specs.Runs.{firsts_of}
use Rattle.run_rules.specs.Steps.{lines_gone, lines_of, setup, steps_of_host}
use Rattle.run_tokens.specs.RunWorked.{worked_journal}
use Rattle.run_tokens.specs.JournalWorked.{owner, roster, script, start}
use Rattle.run_tokens.specs.Worked.{asks_for, client, enter, entered, enters, fetches, from_cache, granted, grants}
use Rattle.run_tokens.specs.Worked.{greets, site_one, stat, takes, tells, to_host, to_server, welcome, welcomes}
use Rattle.run_rules.specs.declared.step.Step.{Step}
use Rattle.base_types.specs.declared.ids.Node.TheVariants.{Host, Server}
use Rattle.script_lines.specs.declared.script.Deed.TheVariants.{Call as MakesCall, Await}
use Rattle.script_lines.specs.declared.script.Line.{Line as ScriptLine}
use Rattle.run_rules.specs.declared.step.Cause.TheVariants.{Line, Message as Came}
use Rattle.message_types.specs.declared.message.Body.{Body}
use Rattle.message_types.specs.declared.message.Body.TheVariants.{Hello, Fetch, Grant, Change, Done, Reclaimed}
use Rattle.message_types.specs.declared.message.Direction.TheVariants.{ToServer, ToHost}
use Rattle.message_types.specs.declared.message.Message.{Message}
use Rattle.tree_objects.specs.Spans.{whole}
use Rattle.tree_calls.specs.declared.entry.Entry.TheVariants.{Call as CallEntry}
use Rattle.tree_calls.specs.declared.call.Call.TheVariants.{NewFileset}
use Rattle.tree_answers.proofs.Kept.{formed_start, formed_entry}
use Rattle.tree_answers.specs.Founding.{new_tree, new_fileset_answer, new_fileset_target, room_for}
use Rattle.tree_filesets.specs.Founding.{new_fileset}
use Rattle.tree_answers.specs.Answers.{answer_to, answer_for, fileset_row}
use Rattle.tree_answers.specs.Finding.{fileset_place}
use Rattle.tree_filesets.specs.Rows.{fileset_answer}
use Rattle.tree_filesets.specs.Changing.{set_access_answer, set_access_target}
use Rattle.tree_filesets.specs.Walk.{target}
use Rattle.tree_filesets.specs.Updates.{updated}
use Rattle.tree_calls.specs.declared.call.Call.TheVariants.{SetAcl}
use Rattle.tree_calls.specs.declared.place.Which.TheVariants.{Files}
use Rattle.tree_answers.specs.declared.tree.Tree.{Tree}
use Rattle.run_tokens.specs.Worked.{access}
use Rattle.tree_answers.specs.WellFormed.{IsWellFormed}
use Rattle.tree_calls.specs.declared.call.Call.{Call}
use Rattle.run_tokens.proofs.HostRunSteps.{meets_greets, meets_enters, meets_fetches, meets_takes, meets_from_cache}
use Rattle.run_tokens.proofs.ServerRunSteps.{meets_welcomes, meets_tells, meets_grants}

abbrev firsts : ServerId → ℕ
firsts = firsts_of worked_journal

-- each cause was sent before
cause_of : (s : Step) (m n : Message) → s.cause ≡ Came m → s.cause ≡ Came n → m ≡ n
cause_of s m n a b = let p : Came m ≡ Came n = sym a ∙ b in cc

host_cause : (past : List Step) (s : Step) (b : Body) → s.cause ≡ Came (to_host b) → SentTo (doings_of 1 site_one past) client 1 0 b → CameToHost firsts client past s
host_cause past s b is sent m e =
    subst (λ (x : Message). (x.host ≡ client) × (x.direction ≡ ToHost) × SentTo (doings_of (firsts x.server) x.server past) client x.epoch x.moves x.body) (cause_of s (to_host b) m is e) (refl, refl, sent)

server_cause : (past : List Step) (s : Step) (n : ℕ) (b : Body) → s.cause ≡ Came (to_server n b) → Said (steps_of_host client past) site_one n 0 b → CameToServer site_one past s
server_cause past s n b is said m e =
    subst (λ (x : Message). (x.server ≡ site_one) × (x.direction ≡ ToServer) × Said (steps_of_host x.host past) site_one x.epoch x.moves x.body) (cause_of s (to_server n b) m is e) (refl, refl, said)

line_cause : (past : List Step) (s : Step) (n : ℕ) → s.cause ≡ Line n → CameToHost firsts client past s
line_cause past s n is m e = absurd (let p : Line n ≡ Came m = sym is ∙ e in cc)

-- no line awaits, and the setup host has no line
setup_done : (past : List Step) → steps_of_host setup past ≡ [] → HostIsDone script setup past
setup_done past e = subst (λ (x : List Step). (lines_gone x ≡ 0) × (HasStopped x ⊎ ((v : ServerId) → HasGreeted x v → HasBye x v))) (sym e) (refl, inr (λ v g. elim g.2 [ ]))

host_flags : (past : List Step) (s : Step) → s.node ≡ Host client → steps_of_host setup past ≡ [] → FlagsMet script past s
host_flags past s node none = record {
  awaits = λ n line flag c is e. absurd (no_await line flag (subst (λ x. In line (lines_of script x)) node is.0) e);
  setup_first = λ h n at other c. setup_done past none;
}
  where
    no_await : (line : ScriptLine) (flag : List ℕ) → In line (lines_of script (Host client)) → line.deed ≡ Await flag → ⊥
    no_await line flag (inl p) e = let q : MakesCall stat ≡ Await flag = ap (λ (x : ScriptLine). x.deed) (sym p) ∙ e in cc
    no_await line flag (inr (inl p)) e = let q : MakesCall stat ≡ Await flag = ap (λ (x : ScriptLine). x.deed) (sym p) ∙ e in cc
    no_await line flag (inr (inr p)) e = elim p [ ]

server_flags : (past : List Step) (s : Step) (m : Message) → s.cause ≡ Came m → s.node ≡ Server site_one → FlagsMet script past s
server_flags past s m cause node = record {
  awaits = λ n line flag c. absurd (let p : Line n ≡ Came m = sym c ∙ cause in cc);
  setup_first = λ h n at. absurd (let p : Host h ≡ Server site_one = sym at ∙ node in cc);
}

-- the messages are sound
sound_to : (n : ℕ) (b : Body) → Goes b ToServer → HasMoves b 0 → IsBody roster (to_server n b) b → (m : Message) → In m (to_server n b ∷ []) → IsFrom (Host client) m × IsSound roster m
sound_to n b way moves body m (inl e) =
    subst (λ (x : Message). IsFrom (Host client) x × IsSound roster x) (sym e)
    ((refl, refl), record { host = omega arith; server = record { first = omega arith; last = omega arith }; way = way; apart = λ p. absurd (cc); moves = moves; body = body })
sound_to n b way moves body m (inr e) = elim e [ ]

sound_from : (b : Body) → Goes b ToHost → HasMoves b 0 → IsBody roster (to_host b) b → (m : Message) → In m (to_host b ∷ []) → IsFrom (Server site_one) m × IsSound roster m
sound_from b way moves body m (inl e) =
    subst (λ (x : Message). IsFrom (Server site_one) x × IsSound roster x) (sym e)
    ((refl, refl), record { host = omega arith; server = record { first = omega arith; last = omega arith }; way = way; apart = λ p. absurd (cc); moves = moves; body = body })
sound_from b way moves body m (inr e) = elim e [ ]

some : 0 < 65536
some = omega arith

enter_is_sound : IsBody roster (to_server 1 (Change enter)) (Change enter)
enter_is_sound = record {
  number = omega arith;
  fileset = inl refl;
  call = record { servers = (record { first = omega arith; last = omega arith }, tt); paths = (omega arith, tt); objects = refl; groups = tt; bytes = tt };
  decided = inl refl;
}

entered_is_sound : IsBody roster (to_host (Done entered)) (Done entered)
entered_is_sound = record {
  fileset = inl refl;
  outcome = λ p. refl;
  brings = record { tokens = tt; home = λ t ts e. absurd (cc) };
  some = λ t ts e. absurd (cc);
  none = λ e. (refl, refl);
}

fetch_is_sound : IsBody roster (to_server 1 (Fetch (asks_for whole))) (Fetch (asks_for whole))
fetch_is_sound = record {
  number = omega arith;
  home = λ p. refl;
  file = (refl, (refl, tt));
  kinds = (tt, (tt, tt));
  room = (tt, (some, tt));
  count = omega arith;
}

grant_is_sound : IsBody roster (to_host (Grant (granted whole))) (Grant (granted whole))
grant_is_sound = record {
  stamp = omega arith;
  brings = record {
    tokens = (
      record { own = record { host = refl; server = refl; room = tt }; file = refl; epoch = refl },
      (record { own = record { host = refl; server = refl; room = some }; file = refl; epoch = refl }, tt),
    );
    home = λ t ts e p. refl;
  };
  home = λ p. refl;
  told = record {
    size = omega arith;
    lists = refl;
    bytes = record { ends = tt; order = tt; together = omega arith; count = omega arith };
    order = tt;
    few = omega arith;
    absent = λ e. absurd (cc);
  };
  absent = λ e. absurd (cc);
}

abbrev steps_1 : List Step
steps_1 = greets ∷ []

abbrev steps_2 : List Step
steps_2 = welcomes ∷ steps_1

abbrev steps_3 : List Step
steps_3 = enters ∷ steps_2

abbrev steps_4 : List Step
steps_4 = tells ∷ steps_3

abbrev steps_5 : List Step
steps_5 = fetches whole ∷ steps_4

abbrev steps_6 : List Step
steps_6 = grants whole ∷ steps_5

abbrev steps_7 : List Step
steps_7 = takes whole ∷ steps_6

said_hello : Said (steps_of_host client steps_1) site_one 0 0 Hello
said_hello = inl (to_server 0 Hello, inl refl, refl, refl, refl, refl)

said_enter : Said (steps_of_host client steps_3) site_one 1 0 (Change enter)
said_enter = inl (to_server 1 (Change enter), inl refl, refl, refl, refl, refl)

said_fetch : Said (steps_of_host client steps_5) site_one 1 0 (Fetch (asks_for whole))
said_fetch = inl (to_server 1 (Fetch (asks_for whole)), inl refl, refl, refl, refl, refl)

meet_1 : StepsMeet script start firsts steps_1
meet_1 = (tt, ((meets_greets, line_cause [] greets 6 refl), host_flags [] greets refl refl, omega arith, sound_to 0 Hello refl refl tt))

meet_2 : StepsMeet script start firsts steps_2
meet_2 = (meet_1, ((meets_welcomes.may, server_cause steps_1 welcomes 0 Hello refl said_hello), server_flags steps_1 welcomes (to_server 0 Hello) refl refl, inl refl, sound_from (Reclaimed welcome) refl refl tt))

meet_3 : StepsMeet script start firsts steps_3
meet_3 = (meet_2, ((meets_enters, host_cause steps_2 enters (Reclaimed welcome) refl (inr (inl refl))), host_flags steps_2 enters refl refl, omega arith, sound_to 1 (Change enter) refl tt enter_is_sound))

meet_4 : StepsMeet script start firsts steps_4
meet_4 = (meet_3, ((meets_tells.may, server_cause steps_3 tells 1 (Change enter) refl said_enter), server_flags steps_3 tells (to_server 1 (Change enter)) refl refl, inl refl, sound_from (Done entered) refl tt entered_is_sound))

meet_5 : StepsMeet script start firsts steps_5
meet_5 = (meet_4, ((meets_fetches, host_cause steps_4 (fetches whole) (Done entered) refl (inr (inl refl))), host_flags steps_4 (fetches whole) refl refl, omega arith, sound_to 1 (Fetch (asks_for whole)) refl tt fetch_is_sound))

meet_6 : StepsMeet script start firsts steps_6
meet_6 = (meet_5, ((meets_grants.may, server_cause steps_5 (grants whole) 1 (Fetch (asks_for whole)) refl said_fetch), server_flags steps_5 (grants whole) (to_server 1 (Fetch (asks_for whole))) refl refl, inl refl, sound_from (Grant (granted whole)) refl tt grant_is_sound))

meet_7 : StepsMeet script start firsts steps_7
meet_7 = (meet_6, ((meets_takes, host_cause steps_6 (takes whole) (Grant (granted whole)) refl (inr (inl refl))), host_flags steps_6 (takes whole) refl refl, omega arith, λ m i. elim i [ ]))

meet_8 : StepsMeet script start firsts (from_cache ∷ steps_7)
meet_8 = (meet_7, ((meets_from_cache, line_cause steps_7 from_cache 7 refl), host_flags steps_7 from_cache refl refl, omega arith, λ m i. elim i [ ]))

-- the start tree is valid: a fileset was founded in an empty one, and its owner set a list of its root
abbrev founds : Call
founds = NewFileset site_one (codes "home") 1 owner

abbrev sets : Call
sets = SetAcl (record { server = site_one; fileset = codes "home"; path = [] }) Files access

abbrev with_home : Tree
with_home = (answer_to (new_tree roster) setup founds).tree

with_home_formed : IsWellFormed with_home
with_home_formed = formed_entry (new_tree roster) (CallEntry setup 1 founds (answer_to (new_tree roster) setup founds).reply) (formed_start roster refl) refl refl

with_lists : (answer_to with_home client sets).tree ≡ start
unfolding answer_to answer_for new_fileset_answer new_fileset_target room_for new_fileset fileset_row fileset_place fileset_answer set_access_answer set_access_target target updated
with_lists = refl

start_is_valid : IsValid start
unfolding home
start_is_valid = record {
  well_formed = subst IsWellFormed with_lists
      (formed_entry with_home (CallEntry client 1 sets (answer_to with_home client sets).reply) with_home_formed refl refl);
  at_rest = refl;
  locks = refl;
  opens = refl;
  unmoved = refl;
  at_home = refl;
}

pub is_run : IsRun script worked_journal
is_run = record {
  start = start;
  starts = refl;
  valid = start_is_valid;
  roster = refl;
  epochs = refl;
  steps = meet_8;
}
