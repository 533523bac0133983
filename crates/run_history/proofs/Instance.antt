-- The contents of a run, as functions of its steps.
use Rattle.std.proofs.Common.{Bool, List, None, Option, Some, false, refl, true, ℕ, ◌≡◌}
use Rattle.std.specs.Prelude.{if◌then◌else◌}
use Rattle.base_types.specs.declared.ids.Fid.{Fid}
use Rattle.base_types.specs.declared.ids.ServerId.{ServerId}
use Rattle.need_host.specs.Looks.{kept_view}
use Rattle.need_host.specs.Walks.{root_of}
use Rattle.tree_answers.specs.declared.tree.Tree.{Tree}
use Rattle.message_types.specs.declared.giving.Give.{Give}
use Rattle.script_lines.specs.declared.script.Script.{Script}
use Rattle.tree_laws.specs.Parts.{Part, Seen}
use Rattle.tree_laws.specs.Parts.Part.{ByteAt, Entries, Size, Traits}
use Rattle.run_rules.specs.Runs.{IsRun, firsts_of, past_of}
use Rattle.run_rules.specs.Views.{gives_at, part_told, sees as host_sees, writes_to}
use Rattle.run_history.specs.Coherent.{RunsAreCoherent}
use Rattle.run_rules.specs.declared.journal.Journal.{Journal}
use Rattle.run_parts.proofs.PlaceLaw.{keeps_tree, legal, lies_inside, loses_exactly, sees_present}
use Rattle.run_parts.specs.Contents.{Contents, IsData}
use Rattle.run_parts.specs.Legal.{ContentsRun}
use Rattle.run_contents.proofs.DeedSteps.{runs_meet}
use Rattle.run_contents.proofs.Uses.{run_tokens}
use Rattle.run_contents.specs.Doing.{deeds_at}
use Rattle.run_contents.specs.Instance.{IsOfRun}
use Rattle.run_contents.specs.Steps.{Written, gives, shown, written_at, written_in, wrote}
use Rattle.run_rules.specs.declared.step.Step.{Step}

-- only bytes and sizes are written
no_traits : (o : Option Written) (size : ℕ) (x : Seen Traits) → written_at o size Traits ≡ Some x → ⊥
no_traits None size x e = cc
no_traits (Some w) size x e = cc

no_entries : (o : Option Written) (size : ℕ) (x : Seen Entries) → written_at o size Entries ≡ Some x → ⊥
no_entries None size x e = cc
no_entries (Some w) size x e = cc

if_written : {X : Type 0} (b : Bool) (o : Option X) (x : X) → (o ≡ Some x → ⊥) → (if b then o else None) ≡ Some x → ⊥
if_written true o x never e = never e
if_written false o x never e = cc

wrote_data : (past : List Step) (s : Step) (f : Fid) (p : Part) (x : Seen p) → wrote past s f p ≡ Some x → IsData p
wrote_data past s f (ByteAt q) x e = tt
wrote_data past s f Size x e = tt
wrote_data past s f Traits x e =
    if_written (writes_to s f) (written_at (written_in s.answers) (host_sees past s f Size) Traits) x
    (no_traits (written_in s.answers) (host_sees past s f Size) x) e
wrote_data past s f Entries x e =
    if_written (writes_to s f) (written_at (written_in s.answers) (host_sees past s f Size) Entries) x
    (no_entries (written_in s.answers) (host_sees past s f Size) x) e

gives_data : (g : Give) (p : Part) (x : Seen p) → gives g p ≡ Some x → IsData p
gives_data g (ByteAt q) x e = tt
gives_data g Size x e = tt
gives_data g Traits x e = cc
gives_data g Entries x e = cc

-- what each step writes, shows, gives back and does
pub contents_of : Tree → (ServerId → ℕ) → Contents
contents_of start firsts = record {
  start = kept_view start;
  tells = part_told;
  gives = gives;
  wrote = wrote;
  shown = shown;
  hands = gives_at;
  root = root_of;
  deeds = λ past s. deeds_at start firsts s.node past s;
  root_in = λ fs. refl;
  wrote_data = wrote_data;
  gives_data = gives_data;
}

pub is_of_run : (start : Tree) (firsts : ServerId → ℕ) → IsOfRun start firsts (contents_of start firsts)
unfolding contents_of
is_of_run start firsts = record {
  hosts = record {
    wrote = λ past s f p. refl;
    shown = λ s f p. refl;
    gives = λ g p. refl;
    hands = λ s f at. refl;
    tells = λ g p. refl;
    root = λ fs. refl;
  };
  start_is = λ f p. refl;
  deeds = λ past s. refl;
}

pub run_contents : (script : Script) (journal : Journal) (run : IsRun script journal)
    → ContentsRun (contents_of run.start (firsts_of journal)) (firsts_of journal) (past_of journal)
run_contents script journal run =
    runs_meet script journal run (contents_of run.start (firsts_of journal)) (is_of_run run.start (firsts_of journal))

pub coherent_runs : RunsAreCoherent
coherent_runs script journal run =
    let c = contents_of run.start (firsts_of journal) in
    let firsts = firsts_of journal in
    let past = past_of journal in
    let tokens = run_tokens script journal run in
    let rules = run_contents script journal run in
    record {
      contents = c;
      of_run = is_of_run run.start firsts;
      legal = legal c firsts past tokens rules;
      sees = sees_present c firsts past tokens rules;
      keeps = keeps_tree c firsts past tokens rules;
      losses = loses_exactly c firsts past tokens rules;
      inside = lies_inside c firsts past tokens rules;
    }
