-- Steps in which a host does nothing with its tokens, labels and files once it has learnt and taken; and what the
-- tables become by them: only what is known of servers, requests and the call changes.
use Rattle.host_tables.specs.Stands.{LostStands}
use Rattle.run_rules.specs.Messages.{KeepsToken}
use Rattle.base_types.specs.declared.ids.Fid.{Fid}
use Rattle.base_types.specs.declared.ids.ServerId.{ServerId}
use Rattle.host_tables.specs.Half.{half}
use Rattle.host_tables.specs.Settling.{Settled}
use Rattle.host_tables.specs.Stands.{NumbersStand, PartedStands, RequestStands, Stands}
use Rattle.host_tables.specs.Tables.{site_at}
use Rattle.host_tables.specs.declared.calls.Request.{Request}
use Rattle.host_tables.specs.declared.numbers.Changed.{Changed}
use Rattle.host_tables.specs.declared.numbers.Fetched.{Fetched}
use Rattle.host_tables.specs.declared.sites.Site.{Site}
use Rattle.host_tables.specs.declared.tables.Tables.{Tables}
use Rattle.message_types.specs.declared.giving.Reclaimed.{Reclaimed as ReclaimedOf}
use Rattle.message_types.specs.declared.message.Body.TheVariants.{Bye, Hello, Reclaimed}
use Rattle.run_rules.specs.HostMay.{ClaimsAt}
use Rattle.run_rules.specs.HostTokens.{OwnsUpdate}
use Rattle.run_rules.specs.Messages.{Comes, HasSaid, Says, Stops}
use Rattle.run_rules.specs.Tokens.{calls_begun}
use Rattle.run_rules.specs.Views.{is_dirty}
use Rattle.run_rules.specs.declared.step.Asked.{Asked}
use Rattle.run_rules.specs.declared.step.Step.{Step}
use Rattle.script_lines.specs.declared.script.Script.{Script}
use Rattle.std.specs.Prelude.{List, None, Option, Some, [], true, ℕ, ◌↔◌, ◌∷◌, ◌≡◌, ◌⊎◌}
use Rattle.token_types.specs.declared.token.TokenId.{TokenId}

pub record IsQuiet (s : Step) : Type 0 where
  pub answers : s.answers ≡ []
  pub wrote : s.wrote ≡ None
  pub begun : s.begun ≡ []
  pub made : s.made ≡ []
  pub dropped : s.dropped ≡ []
  pub keeps : (i : TokenId) → KeepsToken s i → ⊥
  pub no_stop : Stops s → ⊥

-- what such a step may change of the tables
pub record Moved : Type 0 where
  pub sites : List Site
  pub request : Option Request
  pub fetched : List Fetched
  pub changed : List Changed
  pub lost : List Fid
  pub call : Option Asked
  pub begun : ℕ

abbrev pub with_moved : Tables → Moved → Tables
with_moved m x = record m {
  sites = x.sites;
  request = x.request;
  fetched = x.fetched;
  changed = x.changed;
  lost = x.lost;
  call = x.call;
  begun = x.begun;
}

-- that is what the step makes of it
pub record MovesRight (m : Tables) (x : Moved) (past : List Step) (s : Step) : Type 0 where
  pub site_epoch : (v : ServerId) → (site_at x.sites v).epoch ≡ (site_at m.sites v).epoch
  pub site_welcome : (v : ServerId) → (site_at x.sites v).welcome ≡ (site_at m.sites v).welcome
  pub site_has_bye : (v : ServerId) → (site_at x.sites v).has_bye ≡ (site_at m.sites v).has_bye
  pub site_greeted : (v : ServerId) → (site_at x.sites v).greeted ≡ true
      ↔ (((site_at m.sites v).greeted ≡ true) ⊎ Says s v Hello)
  pub site_said_bye : (v : ServerId) → (site_at x.sites v).said_bye ≡ true
      ↔ (((site_at m.sites v).said_bye ≡ true) ⊎ Says s v Bye)
  pub site_claimed : (v : ServerId) → (site_at x.sites v).claimed ≡ true
      ↔ (((site_at m.sites v).claimed ≡ true) ⊎ ClaimsAt s v)
  pub claims_apart : (v : ServerId) (a : ReclaimedOf) → ClaimsAt s v → Comes past s v (Reclaimed a) → ⊥
  pub request : RequestStands x.request (s ∷ past)
  pub numbers : NumbersStand x.fetched x.changed (s ∷ past)
  pub call_from : (c : Asked) → x.call ≡ Some c → (s.asked ≡ Some c) ⊎ (m.call ≡ Some c)
  pub call_asked : (c : Asked) → s.asked ≡ Some c → x.call ≡ Some c
  pub call_stays : (c : Asked) → m.call ≡ Some c → x.call ≡ Some c
  pub begun : x.begun ≡ calls_begun (s ∷ past)
  pub lost : LostStands x.lost x.call (s ∷ past)
  pub parted : (v : ServerId) → HasSaid (s ∷ past) v Bye → PartedStands x.request x.call v (s ∷ past)

-- then the tables are settled
abbrev pub QuietSettles : Type 0
QuietSettles = (script : Script) (m : Tables) (x : Moved) (past : List Step) (s : Step)
    → Stands script m (half s ∷ past)
    → ((fid : Fid) (at : ℕ) → is_dirty past fid at ≡ true → OwnsUpdate past fid at)
    → IsQuiet s → MovesRight m x past s → Settled script m (with_moved m x) past s
