-- How a machine runs on by a step.
use Rattle.base_types.specs.declared.ids.Fid.{Fid}
use Rattle.base_types.specs.declared.ids.Node.TheVariants.{Host}
use Rattle.base_types.specs.declared.ids.ServerId.{ServerId}
use Rattle.message_types.specs.Soundness.{IsSound}
use Rattle.host_calls.specs.Looking.{AreUses}
use Rattle.host_tables.specs.Machine.{StepRight}
use Rattle.host_manager.specs.Running.{AsksForCall, EndsOpen, IsRunning, RunsOn}
use Rattle.host_tables.specs.Stands.{AsksFrom, IsCoveredFrom, IsLack, Stands, verdict_from}
use Rattle.host_tables.specs.Tables.{labelled, site_at}
use Rattle.host_tables.specs.Tidy.{IsTidy}
use Rattle.host_tables.specs.declared.tables.Tables.{Tables}
use Rattle.message_types.specs.declared.message.Message.{Message}
use Rattle.need_host.specs.Calls.Verdict.{Asks}
use Rattle.need_host.specs.Questions.{Question}
use Rattle.run_rules.specs.Past.{In}
use Rattle.run_rules.specs.Steps.{IsNextLine, goes_with, lines_gone, lines_of}
use Rattle.run_rules.specs.declared.step.Asked.{Asked}
use Rattle.run_rules.specs.declared.step.Step.{Step}
use Rattle.script_lines.specs.declared.script.Line.{Line}
use Rattle.script_lines.specs.declared.script.Script.{Script}
use Rattle.std.proofs.Common.{List, None, Some, [], arith, inl, inr, length, subst, suc, sym, true, zero, ℕ}
use Rattle.std.proofs.Common.{◌<◌, ◌∙◌, ◌∷◌, ◌≡◌, ◌⊎◌}
use Rattle.std.specs.Prelude.{slice_get}
use Rattle.token_types.specs.declared.token.Need.{Need}
use Rattle.tree_calls.specs.declared.call.Call.{Call}

pub runs_on : (script : Script) (old new : Tables) (past : List Step) (s : Step) → StepRight script old new past s
    → new.host ≡ old.host → IsTidy script.roster new → EndsOpen new → AsksForCall new
    → ((v : ServerId) → (site_at new.sites v).said_bye ≡ true
    → lines_gone (s ∷ past) ≡ length (lines_of script (Host new.host)))
    → ((y : Message) → In y s.sent → IsSound script.roster y) → RunsOn script old new past s
runs_on script old new past s right host tidy ending asking gone sound = record {
  may = right.may;
  sound = sound;
  host = host;
  runs = record { rests = right.rests; tidy = tidy; ending = ending; asking = asking; gone = gone };
}

-- nothing is asked for a call where none is open, or nothing is asked
pub asks_none : (m : Tables) → m.call ≡ None → AsksForCall m
asks_none m none c e busy = absurd (let p = sym none ∙ e in cc)

pub asks_idle : (m : Tables) → m.request ≡ None → AsksForCall m
asks_idle m idle c e busy = absurd (busy idle)

-- why something is asked for a call
abbrev pub AsksWhy : Tables → Call → Type 0
AsksWhy m call = ((need : Need) × IsLack m call need)
    ⊎ ((question : Question) × (verdict_from m call ≡ Asks question) × IsCoveredFrom m call)

pub asks_for : (m : Tables) (c : Asked) → m.call ≡ Some c → AsksWhy m c.call → AsksForCall m
asks_for m c is why d e busy =
    let p : Some c ≡ Some d = sym is ∙ e in
    let q : c ≡ d = cc in subst (λ (a : Asked). AsksWhy m a.call) q why

pub asks_by : (m : Tables) (call : Call) (question : Question) (fid : Fid) → AsksFrom m call question fid
    → AsksWhy m call
asks_by m call question fid (inl p) = inr (question, p.0, p.1)
asks_by m call question fid (inr p) = inl (p.0, p.1)

-- a place of a list is within it
pub place_within : {A : Type 0} (xs : List A) (n : ℕ) (x : A) → slice_get xs n ≡ Some x → n < length xs
place_within [] n x e = absurd (cc)
place_within (y ∷ xs) zero x e = omega arith
place_within (y ∷ xs) (suc n) x e = let l = place_within xs n x e in omega (arith, l)

-- while a line is left no Bye was said
pub line_left : (script : Script) (m : Tables) (past : List Step) (number : ℕ) (line : Line) → IsRunning script m past
    → IsNextLine (lines_of script (Host m.host)) past number line → (v : ServerId)
    → (site_at m.sites v).said_bye ≡ true → ⊥
line_left script m past number line running next v e =
    let l = place_within (lines_of script (Host m.host)) (lines_gone past) line next.0 in
    let g = running.gone v e in omega (arith, l, g)

-- no line goes by it
pub gone_on : (script : Script) (m : Tables) (past : List Step) (s : Step) → IsRunning script m past
    → goes_with s.cause ≡ 0 → (v : ServerId) → (site_at m.sites v).said_bye ≡ true
    → lines_gone (s ∷ past) ≡ length (lines_of script (Host m.host))
gone_on script m past s running e v said =
    let g = running.gone v said in omega (arith, g, e)

-- each label is for a token of its kind
pub uses_are : (script : Script) (m : Tables) (past : List Step) → Stands script m past → AreUses m
uses_are script m past stands = record {
  labels = λ v i. stands.uses.kinds (labelled v) (stands.uses.used v i);
  ending = λ u e. (stands.leaving.ends u e).0;
}
