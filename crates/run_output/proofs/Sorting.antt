-- Answers that are sorted by host.
use Rattle.std.proofs.Common.{◌≡◌, ◌++◌, ◌+◌, ℕ, zero, suc, List, [], ◌∷◌, None, Bor, flat_map, map, get_or, slice_get, append_assoc, refl, sym, ap, ◌∙◌}
use Rattle.std.specs.List.{range_with_len}
use Rattle.std.proofs.lemmas.List.{append-nil}
use Rattle.std.proofs.lemmas.Grind.{flat_map-append}
use Rattle.std.proofs.lemmas.Option.{none-some}
use Rattle.base_types.specs.declared.ids.Node.{Node}
use Rattle.base_types.specs.declared.ids.Node.TheVariants.{Server}
use Rattle.base_types.specs.declared.ids.ServerId.{ServerId}
use Rattle.script_output.specs.Reports.{answer_in}
use Rattle.script_output.specs.declared.report.Answer.{Answer as Told}
use Rattle.run_rules.specs.Runs.{applied_entries, call_entry, entries_in, entries_moved}
use Rattle.run_rules.specs.declared.applied.Answer.{Answer}
use Rattle.run_rules.specs.declared.applied.Applied.{Applied}
use Rattle.run_rules.specs.declared.applied.Applied.TheVariants.{Done, Replied}
use Rattle.run_rules.specs.declared.applied.Head.{Head}
use Rattle.run_rules.specs.declared.applied.Move.{Move}
use Rattle.run_rules.specs.declared.applied.Move.TheVariants.{Arrives}
use Rattle.run_rules.specs.declared.applied.Written.{Written}

-- what answers tell of a host's lines, of which there are so many
abbrev pub told_by : ℕ → ℕ → List (Bor Answer) → List Told
told_by host calls own = flat_map (answer_in host calls) (map (λ answer. call_entry answer.now) own)

-- a host without a list answered nothing
pub no_list : {X : Type 0} (lists : List (List X)) (i : ℕ) → None ≡ slice_get lists i → get_or lists i [] ≡ []
no_list [] i e = refl
no_list (x ∷ lists) zero e = absurd (none-some x e)
no_list (x ∷ lists) (suc i) e = no_list lists i e

pub of_replied : (host calls : ℕ) (server : ServerId) (applied : Applied) (answer : Answer) → applied ≡ Replied answer
    → answer_in host calls (call_entry answer) ≡ flat_map (answer_in host calls) (entries_in server applied)
of_replied host calls server applied answer e =
    sym (ap (λ one. flat_map (answer_in host calls) (entries_in server one)) e ∙ append-nil (answer_in host calls (call_entry answer)))

pub of_done : (host calls : ℕ) (server : ServerId) (applied : Applied) (written : Written) → applied ≡ Done written
    → answer_in host calls (call_entry written.answer) ≡ flat_map (answer_in host calls) (entries_in server applied)
of_done host calls server applied written e =
    sym (ap (λ one. flat_map (answer_in host calls) (entries_in server one)) e ∙ append-nil (answer_in host calls (call_entry written.answer)))

pub of_arrives : (host calls : ℕ) (server : ServerId) (of : Move) (head : Head) → of ≡ Arrives head
    → answer_in host calls (call_entry head.written.answer) ≡ flat_map (answer_in host calls) (entries_moved server of)
of_arrives host calls server of head e =
    sym (ap (λ one. flat_map (answer_in host calls) (entries_moved server one)) e
    ∙ append-nil (answer_in host calls (call_entry head.written.answer)))

-- a server's step tells what it answers, and then what it applies
pub of_server : (host calls : ℕ) (answers : List Answer) (applied : List Applied) (node : Node) (server : ServerId)
    → node ≡ Server server → (before between : List Told) → between ≡ before ++ flat_map (answer_in host calls) (map call_entry answers)
    → between ++ flat_map (answer_in host calls) (flat_map (entries_in server) applied)
    ≡ before ++ flat_map (answer_in host calls) (map call_entry answers ++ applied_entries node applied)
of_server host calls answers applied node server e before between came =
    ap (λ told. told ++ flat_map (answer_in host calls) (flat_map (entries_in server) applied)) came
    ∙ append_assoc before (flat_map (answer_in host calls) (map call_entry answers)) (flat_map (answer_in host calls) (flat_map (entries_in server) applied))
    ∙ ap (λ told. before ++ told) (sym (flat_map-append (answer_in host calls) (map call_entry answers) (flat_map (entries_in server) applied)))
    ∙ sym (ap (λ at. before ++ flat_map (answer_in host calls) (map call_entry answers ++ applied_entries at applied)) e)

-- one host more
pub next_host : (of : ℕ → List Told) (host hosts left : ℕ) (before now whole : List Told) → hosts ≡ suc left → now ≡ before ++ of host
    → before ++ flat_map of (range_with_len host hosts) ≡ whole → now ++ flat_map of (range_with_len (host + 1) left) ≡ whole
next_host of host hosts left before now whole e came h =
    ap (λ told. told ++ flat_map of (range_with_len (host + 1) left)) came
    ∙ append_assoc before (of host) (flat_map of (range_with_len (host + 1) left))
    ∙ sym (ap (λ count. before ++ flat_map of (range_with_len host count)) e)
    ∙ h
