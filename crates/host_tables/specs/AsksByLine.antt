-- A whole step: a line begins a call that lacks a token, and the host asks for it.
use Rattle.base_types.specs.declared.ids.FilesetId.{FilesetId}
use Rattle.base_types.specs.declared.ids.ServerId.{ServerId}
use Rattle.host_gives.specs.Giving.{is_of_file}
use Rattle.host_tables.specs.Asking.{FetchFrom}
use Rattle.host_tables.specs.AtOnce.{IsFree, IsNextCall}
use Rattle.host_tables.specs.Half.{learning}
use Rattle.host_tables.specs.Machine.{Rests, StepRight}
use Rattle.host_tables.specs.Stands.{IsLack}
use Rattle.host_tables.specs.Tables.{last_fetch, site_at}
use Rattle.host_tables.specs.declared.calls.Request.TheVariants.{Fetch as AFetch}
use Rattle.host_tables.specs.declared.numbers.Fetched.{Fetched}
use Rattle.host_tables.specs.declared.tables.Tables.{Tables}
use Rattle.message_types.specs.declared.asking.Fetch.{Fetch as FetchOf}
use Rattle.message_types.specs.declared.message.Body.TheVariants.{Fetch}
use Rattle.message_types.specs.declared.message.Direction.TheVariants.{ToServer}
use Rattle.message_types.specs.declared.message.Message.{Message}
use Rattle.run_rules.specs.Messages.{home}
use Rattle.run_rules.specs.Tokens.{IsUseKind}
use Rattle.run_rules.specs.declared.step.Asked.{Asked}
use Rattle.run_rules.specs.declared.step.Cause.TheVariants.{Line as LineOf}
use Rattle.run_rules.specs.declared.step.Step.{Step}
use Rattle.script_lines.specs.declared.script.Script.{Script}
use Rattle.std.specs.List.{list_any}
use Rattle.std.specs.Prelude.{List, Some, [], false, true, ℕ, ◌+◌, ◌∷◌, ◌≡◌, ◌≤◌, ◌⊎◌}
use Rattle.token_types.specs.declared.token.Need.{Need}
use Rattle.tree_calls.specs.declared.call.Call.{Call}

abbrev pub begun_call : Tables → Call → Asked
begun_call m call = record { k = m.begun + 1; call = call }

abbrev pub fetch_message : Tables → FetchOf → Message
fetch_message m f = record {
  direction = ToServer;
  host = m.host;
  server = home f.fid.fileset;
  epoch = (site_at m.sites (home f.fid.fileset)).epoch;
  moves = 0;
  body = Fetch f;
}

abbrev pub asks_line : Tables → ℕ → Call → FetchOf → Step
asks_line m line call f =
    record (learning m.host (LineOf line) []) { asked = Some (begun_call m call); sent = fetch_message m f ∷ [] }

-- what the call lacks, and what is asked, by the tables
pub record LacksToken (m : Tables) (call : Call) (f : FetchOf) : Type 0 where
  pub need : Need
  pub lack : IsLack m call need
  pub kind : IsUseKind need.kind → ⊥
  pub file : need.fid ≡ f.fid
  pub no_give : list_any (is_of_file f.fid) m.gives.gives ≡ false
  pub welcome : (site_at m.sites (home f.fid.fileset)).welcome ≡ true
  pub needs : FetchFrom m [] call f.fid f.needs
  pub number : f.number ≡ last_fetch m.fetched f.fid.fileset + 1

-- the numbers with a new one
pub record CountsFetch (old new : List Fetched) (f : FetchOf) : Type 0 where
  pub at : last_fetch new f.fid.fileset ≡ f.number
  pub up : (fs : FilesetId) → last_fetch old fs ≤ last_fetch new fs
  pub other : (fs : FilesetId) → (last_fetch new fs ≡ last_fetch old fs) ⊎ (f.fid.fileset ≡ fs)

abbrev pub asked_for : Tables → Call → FetchOf → List Fetched → Tables
asked_for m call f fetched = record m {
  call = Some (begun_call m call);
  begun = m.begun + 1;
  request = Some (AFetch f);
  fetched = fetched;
  lost = [];
}

abbrev pub FetchedRight : Type 0
FetchedRight = (script : Script) (m : Tables) (past : List Step) (line : ℕ) (call : Call) (f : FetchOf)
    (fetched : List Fetched)
    → Rests script m past → IsFree m → IsNextCall script m.host past line call
    → ((v : ServerId) → (site_at m.sites v).said_bye ≡ true → ⊥)
    → LacksToken m call f → CountsFetch m.fetched fetched f
    → StepRight script m (asked_for m call f fetched) past (asks_line m line call f)
