-- The run is whole: it is ended, and its history is what the tree says.
use Rattle.base_types.specs.declared.ids.HostId.{HostId}
use Rattle.base_types.specs.declared.ids.Node.TheVariants.{Host, Server}
use Rattle.base_types.specs.declared.ids.ServerId.{ServerId}
use Rattle.tree_calls.specs.declared.call.Call.{Call}
use Rattle.tree_calls.specs.declared.call.Call.TheVariants.{Create, NewFileset, SetAcl}
use Rattle.tree_calls.specs.declared.entry.Entry.TheVariants.{Call as CallEntry}
use Rattle.tree_calls.specs.declared.place.Which.TheVariants.{Files}
use Rattle.tree_calls.specs.declared.reply.Reply.TheVariants.{Bytes}
use Rattle.tree_answers.proofs.Kept.{formed_entry, formed_start}
use Rattle.tree_answers.specs.Answers.{answer_to}
use Rattle.tree_answers.specs.Founding.{new_tree}
use Rattle.tree_answers.specs.Histories.{IsHistory, after_history}
use Rattle.tree_answers.specs.WellFormed.{IsWellFormed}
use Rattle.tree_answers.specs.declared.tree.Tree.{Tree}
use Rattle.message_types.specs.declared.message.Body.TheVariants.{Bye, Hello}
use Rattle.message_types.specs.declared.message.Message.{Message}
use Rattle.run_examples.proofs.LapseChecks.{bye_body, byes_at, has_bye, is_hello}
use Rattle.run_examples.proofs.ServerWords.{away, away_yes, heard, listed_heard}
use Rattle.run_examples.proofs.Tests.{at_all, implies, same_server, server_is}
use Rattle.run_examples.proofs.TokenChecks.{is_bye}
use Rattle.run_examples.proofs.Words.{at_said, said}
use Rattle.run_examples.specs.Steps.{at_file, other}
use Rattle.run_examples.proofs.Planned.{planned}
use Rattle.run_examples.proofs.HostSteps.{host_words}
use Rattle.run_examples.proofs.Prefixes.{tree_words, until_52}
use Rattle.run_examples.proofs.Run.{run_52}
use Rattle.run_examples.proofs.ServerSteps.{deeds, site_words}
use Rattle.run_examples.specs.Journal.{both, entries, journal, reads, script, start}
use Rattle.run_examples.specs.WorkedLaws.{IsWhole}
use Rattle.std.proofs.Common.{Bool, List, [], arith, inl, inr, length, refl, subst, suc, sym, true, zero, ℕ, ◌∷◌, ◌≡◌}
use Rattle.std.proofs.Common.{◌≤◌}
use Rattle.std.proofs.lemmas.Bool.{and_parts, or_cases}
use Rattle.std.specs.List.{list_all}
use Rattle.std.specs.Prelude.{codes, ◌⊎◌}
use Rattle.run_examples.proofs.Due.{due_52}
use Rattle.run_rules.specs.Doings.{HasGoneAway, Listed, doings_of}
use Rattle.run_rules.specs.Messages.{HasBye}
use Rattle.run_rules.specs.Messages.{ComesIn, HasGreeted, home}
use Rattle.run_rules.specs.Runs.{HostIsDone, IsDutiful, IsEnded, IsRun, IsValid, TakesPart, firsts_of}
use Rattle.run_rules.specs.Steps.{lines_gone, lines_of, setup, steps_of_host, steps_of_server}
use Rattle.run_tokens.specs.JournalWorked.{owner}
use Rattle.run_tokens.specs.Worked.{access, client, site_one}
use Rattle.run_rules.specs.declared.step.Cause.{Cause}
use Rattle.run_rules.specs.declared.step.Cause.TheVariants.{Message as Came}
use Rattle.run_rules.specs.declared.step.Step.{Step}

one_of_three : (n : ℕ) → n ≤ 2 → (n ≡ 0) ⊎ ((n ≡ 1) ⊎ (n ≡ 2))
one_of_three zero e = inl refl
one_of_three (suc zero) e = inr (inl refl)
one_of_three (suc (suc zero)) e = inr (inr refl)
one_of_three (suc (suc (suc n))) e = absurd (omega (arith, e))

-- all Hellos went to the server, which has said Bye
greets_there : Message → Bool
greets_there k = implies (is_hello k.body) (same_server k.server site_one)

bye_from : (past : List Step) → has_bye past site_one ≡ true → HasBye past site_one
unfolding host_words
bye_from [] e = absurd (cc)
bye_from (s ∷ past) e =
    elim (or_cases (byes_at site_one s.cause) (has_bye past site_one) e) [
      | inl p ↦ inl (now s.cause refl p)
      | inr p ↦ inr (bye_from past p)
    ]
  where
    now : (cause : Cause) → s.cause ≡ cause → byes_at site_one cause ≡ true
        → (e n : ℕ) × ComesIn s site_one e n Bye
    now (Came m) c t =
        let p = and_parts (is_bye m.body) (same_server m.server site_one) t in
        (m.epoch, m.moves, (m, c, server_is m.server site_one p.1, refl, refl, bye_body m.body p.0))
    now cause c t = absurd (cc)

byes : (past : List Step) → list_all greets_there (said past) ≡ true → has_bye past site_one ≡ true
    → (v : ServerId) → HasGreeted past v → HasBye past v
unfolding greets_there is_hello
byes past e t v (f, n, x) =
    let p = at_said greets_there past v f n Hello e x in
    subst (HasBye past) (sym (server_is v site_one (so_hello v p.1))) (bye_from past t)
  where
    so_hello : (v : ServerId) → implies (is_hello Hello) (same_server v site_one) ≡ true → same_server v site_one ≡ true
    so_hello v e = e

setup_done : HostIsDone script setup until_52
setup_done = (refl, inr (λ v g. elim g.2 [ ]))

first_done : HostIsDone script client until_52
unfolding host_words greets_there
first_done = (refl, inr (byes (steps_of_host client until_52) refl refl))

second_done : HostIsDone script other until_52
unfolding host_words greets_there
second_done = (refl, inr (byes (steps_of_host other until_52) refl refl))

host_of : (host : HostId) (n : ℕ) → host.0 ≡ n → host ≡ record { 0 = n }
host_of host n e = λ i. record { 0 = e i }

hosts_done : (host : HostId) → TakesPart script (Host host) → HostIsDone script host until_52
hosts_done host e =
    elim (one_of_three host.0 e) [
      | inl p ↦ subst (λ h. HostIsDone script h until_52) (sym (host_of host 0 p)) setup_done
      | inr q ↦ elim q [
        | inl p ↦ subst (λ h. HostIsDone script h until_52) (sym (host_of host 1 p)) first_done
        | inr p ↦ subst (λ h. HostIsDone script h until_52) (sym (host_of host 2 p)) second_done
      ]
    ]

-- each host that the server heard is away
all_away : list_all (away (deeds until_52)) (heard (deeds until_52)) ≡ true
unfolding site_words
all_away = refl

is_away : (host : HostId) → Listed (deeds until_52) host → HasGoneAway (deeds until_52) host
is_away host l =
    away_yes (deeds until_52) host (at_all (away (deeds until_52)) (heard (deeds until_52)) host all_away
    (listed_heard (deeds until_52) host l))

run_ended : IsEnded script journal
run_ended = record {
  hosts = hosts_done;
  lines = λ v m. elim m [
    | inl p ↦ subst (λ v. lines_gone (steps_of_server v until_52) ≡ length (lines_of script (Server v))) (sym p) refl
    | inr p ↦ elim p [ ]
  ];
  servers = λ v h m. elim m [
    | inl p ↦ subst (λ v. Listed (doings_of (firsts_of journal v) v until_52) h → HasGoneAway (doings_of (firsts_of journal v) v until_52) h) (sym p)
        (is_away h)
    | inr p ↦ elim p [ ]
  ];
}

-- the start tree is valid: a fileset was founded in an empty one, its owner set a list of its root, and made a file
abbrev founds : Call
founds = NewFileset site_one (codes "home") 2 owner

abbrev sets : Call
sets = SetAcl (record { server = site_one; fileset = codes "home"; path = [] }) Files access

abbrev creates : Call
creates = Create at_file

abbrev with_home : Tree
with_home = (answer_to (new_tree both) setup founds).tree

abbrev with_lists : Tree
with_lists = (answer_to with_home client sets).tree

home_formed : IsWellFormed with_home
home_formed =
    formed_entry (new_tree both) (CallEntry setup 1 founds (answer_to (new_tree both) setup founds).reply)
    (formed_start both refl) refl refl

lists_formed : IsWellFormed with_lists
lists_formed =
    formed_entry with_home (CallEntry client 1 sets (answer_to with_home client sets).reply) home_formed refl refl

with_file : (answer_to with_lists client creates).tree ≡ start
unfolding tree_words
with_file = refl

start_is_valid : IsValid start
unfolding home
start_is_valid = record {
  well_formed = subst IsWellFormed with_file
      (formed_entry with_lists (CallEntry client 2 creates (answer_to with_lists client creates).reply) lists_formed refl
      refl);
  at_rest = refl;
  locks = refl;
  opens = refl;
  unmoved = refl;
  at_home = refl;
}

is_run : IsRun script journal
is_run = record {
  start = start;
  starts = refl;
  valid = start_is_valid;
  roster = refl;
  epochs = refl;
  steps = run_52;
}

is_dutiful : IsDutiful script journal
is_dutiful = record { start = start; starts = refl; steps = due_52 }

legal : IsHistory start entries
unfolding tree_words
legal = (refl, (refl, (refl, (refl, (refl, (refl, (refl, tt)))))))

kept_so : (answer_to (after_history start entries) other reads).reply ≡ Bytes (codes "ab")
unfolding tree_words
kept_so = refl

free_so : (after_history start entries).locks ≡ []
unfolding tree_words
free_so = refl

pub is_whole : IsWhole
is_whole = record {
  run = is_run;
  dutiful = is_dutiful;
  planned = planned;
  ended = run_ended;
  history = refl;
  legal = legal;
  lost = refl;
  kept = kept_so;
  free = free_so;
}
