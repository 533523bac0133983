-- What a host claims from a server that has restarted, and what it sends again, by its tables.
use Rattle.std.specs.Prelude.{Bool, List, Option, Some, [], filter, fold, map, nat_lt, if◌then◌else◌, ℕ}
use Rattle.std.specs.Prelude.{not, ◌&&◌, ◌++◌, ◌==◌}
use Rattle.std.specs.Option.{option_map_or}
use Rattle.base_types.specs.declared.ids.FilesetId.{FilesetId}
use Rattle.base_types.specs.declared.ids.ServerId.{ServerId}
use Rattle.host_gives.specs.Giving.{number_of, outstanding}
use Rattle.host_leaves.specs.Sending.{filesets_given, saying, sending_give, sending_request, with_once}
use Rattle.host_tables.specs.Tables.{held_of, site_at}
use Rattle.host_tables.specs.declared.calls.Request.{Request}
use Rattle.host_tables.specs.declared.calls.Request.TheVariants.{Change as AChange}
use Rattle.host_tables.specs.declared.draft.Draft.{Draft}
use Rattle.host_tables.specs.declared.sites.Site.{Site}
use Rattle.host_tables.specs.declared.tables.Tables.{Tables}
use Rattle.message_types.specs.declared.asking.Change.{Change}
use Rattle.message_types.specs.declared.giving.Outstanding.{Outstanding}
use Rattle.message_types.specs.declared.giving.Reclaim.{Reclaim}
use Rattle.message_types.specs.declared.message.Body.TheVariants.{Bye, Hello, Reclaim as AReclaim}
use Rattle.token_types.specs.declared.token.Token.{Token}

-- the tokens that a server granted before its present epoch: those that are held, and those on their way
abbrev pub is_before : ServerId → ℕ → Token → Bool
is_before server epoch token = (token.id.server.0 == server.0) && nat_lt token.id.epoch epoch

abbrev pub is_claimed : Tables → ServerId → Token → Bool
is_claimed m server token = is_before server (site_at m.sites server).epoch token

abbrev pub claimed_tokens : Tables → ServerId → List Token
claimed_tokens m server = filter (is_claimed m server) (held_of m ++ map (λ left. left.token) m.leaving)

-- their filesets, each once, and what is outstanding there
abbrev pub with_its_fileset : List FilesetId → Token → List FilesetId
with_its_fileset filesets token = with_once filesets token.fid.fileset

abbrev pub filesets_of : List Token → List FilesetId
filesets_of tokens = fold with_its_fileset [] tokens

abbrev pub given_number : Tables → FilesetId → ℕ
given_number m fileset = option_map_or number_of (outstanding m.gives fileset) 0

abbrev pub number_at : FilesetId → Change → ℕ
number_at fileset change = if change.fileset.0 == fileset.0 then change.number else 0

abbrev pub changed_number : Option Request → FilesetId → ℕ
changed_number (Some (AChange server change)) fileset = number_at fileset change
changed_number _ fileset = 0

abbrev pub outstanding_at : Tables → FilesetId → Outstanding
outstanding_at m fileset = record {
  fileset = fileset;
  moves = 0;
  give = given_number m fileset;
  change = changed_number m.request fileset;
}

abbrev pub claim_of : Tables → ServerId → Reclaim
claim_of m server = record {
  tokens = claimed_tokens m server;
  numbers = map (outstanding_at m) (filesets_of (claimed_tokens m server));
}

abbrev pub claiming : Tables → Draft → ServerId → Draft
claiming m draft server = saying m server (AReclaim (claim_of m server)) draft

-- at a lapse
abbrev pub helloing : Tables → Draft → Site → Draft
helloing m draft site = if site.greeted && not site.welcome then saying m site.server Hello draft else draft

abbrev pub claiming_again : Tables → Draft → Site → Draft
claiming_again m draft site = if site.claimed then claiming m draft site.server else draft

abbrev pub parting_again : Tables → Draft → Site → Draft
parting_again m draft site = if site.said_bye && not site.has_bye then saying m site.server Bye draft else draft

abbrev pub repeating : Tables → Draft → Draft
repeating m draft =
    let greeted = fold (helloing m) draft m.sites in
    let given = fold (sending_give m) greeted (filesets_given m.gives.gives) in
    let claimed = fold (claiming_again m) given m.sites in
    fold (parting_again m) (sending_request m m.request claimed) m.sites
