-- More examples: each test is computed.
use Rattle.std.proofs.Common.{List, [], false, refl, true, ◌∷◌, ℕ}
use Rattle.tree_objects.specs.Spans.{span_between}
use Rattle.message_types.specs.declared.message.Body.TheVariants.{GiveBack}
use Rattle.token_types.specs.declared.token.Kind.TheVariants.{Bytes, Status}
use Rattle.run_tokens.specs.JournalWorked.{owner}
use Rattle.run_tokens.specs.Worked.{client, site_one, to_server}
use Rattle.run_examples.specs.Laws.{Does, caching, locking_alone, relocking, syncing, widening, writing}
use Rattle.run_examples.specs.Steps.{asks_file, asks_for, asks_root, asks_update, begin, enters, evicted, evicts, file}
use Rattle.run_examples.specs.Steps.{file_bytes, frees_last, greets, grows, grown, keeps, lapses, lock_gift, locked}
use Rattle.run_examples.specs.Steps.{asks_both, asks_second_block, asks_status, ends_again, ends_second, freed_first}
use Rattle.run_examples.specs.Steps.{gives_first_block, gives_shown, gives_status, learns_first_block, learns_status}
use Rattle.run_examples.specs.Steps.{locks_again, shown_gift, takes_second_block}
use Rattle.run_examples.specs.Steps.{hears_bytes, hears_moved, hears_unmade, needs, returns_all, returns_other}
use Rattle.run_examples.specs.Steps.{unlocks_last}
use Rattle.run_examples.specs.Steps.{writes}
use Rattle.need_host.specs.Calls.{sync_look}
use Rattle.run_rules.specs.declared.step.Step.{Step}
use Rattle.run_examples.proofs.Examples.{computed}
use Rattle.run_examples.proofs.EvictChecks.{evict_does, evict_tests, may_evict, uses_now}
use Rattle.run_examples.proofs.HostChecks.{host_does}

unfoldable pub more : ℕ
unfolding computed evict_tests may_evict uses_now
more = 0

pub unlocks_meets : Does locking_alone client locked unlocks_last
unfolding computed
unlocks_meets = host_does site_one locking_alone client owner locked unlocks_last refl refl

pub unlocks_lapse : Does locking_alone client (unlocks_last ∷ locked) (lapses [])
unfolding computed
unlocks_lapse = host_does site_one locking_alone client owner (unlocks_last ∷ locked) (lapses []) refl refl

pub returns_meets : Does locking_alone client (unlocks_last ∷ locked) returns_all
unfolding computed
returns_meets = host_does site_one locking_alone client owner (unlocks_last ∷ locked) returns_all refl refl

pub returns_lapse : Does locking_alone client (returns_all ∷ unlocks_last ∷ locked) (lapses [])
unfolding computed
returns_lapse =
    host_does site_one locking_alone client owner (returns_all ∷ unlocks_last ∷ locked) (lapses []) refl refl

pub frees_last_meets : Does locking_alone client (keeps ∷ locked) frees_last
unfolding computed
frees_last_meets = host_does site_one locking_alone client owner (keeps ∷ locked) frees_last refl refl

pub frees_last_lapse : Does locking_alone client (frees_last ∷ keeps ∷ locked)
    (lapses (to_server 1 (GiveBack lock_gift) ∷ []))
unfolding computed
frees_last_lapse =
    host_does site_one locking_alone client owner (frees_last ∷ keeps ∷ locked)
    (lapses (to_server 1 (GiveBack lock_gift) ∷ [])) refl refl

pub evicts_meets : Does caching client grown evicts
unfolding more
evicts_meets =
    evict_does site_one caching client owner (asks_update ∷ begin writes) grows evicts file_bytes refl refl refl refl

pub evicts_lapse : Does caching client (evicts ∷ grown) (lapses (to_server 1 (GiveBack evicted) ∷ []))
unfolding computed
evicts_lapse =
    host_does site_one caching client owner (evicts ∷ grown) (lapses (to_server 1 (GiveBack evicted) ∷ [])) refl refl

pub asks_file_meets : Does writing client (asks_root ∷ enters writes ∷ greets writes ∷ []) asks_file
unfolding computed
asks_file_meets =
    host_does site_one writing client owner (asks_root ∷ enters writes ∷ greets writes ∷ []) asks_file refl refl

pub asks_file_lapse : Does writing client (begin writes)
    (lapses (asks_for 2 file (needs file (Status false) ∷ []) ∷ []))
unfolding computed
asks_file_lapse =
    host_does site_one writing client owner (begin writes)
    (lapses (asks_for 2 file (needs file (Status false) ∷ []) ∷ [])) refl refl

pub asks_update_meets : Does writing client (begin writes) asks_update
unfolding computed
asks_update_meets = host_does site_one writing client owner (begin writes) asks_update refl refl

pub asks_update_lapse : Does writing client (asks_update ∷ begin writes)
    (lapses (asks_for 3 file (needs file (Status true) ∷ needs file (Bytes true (span_between 0 1024)) ∷ []) ∷ []))
unfolding computed
asks_update_lapse =
    host_does site_one writing client owner (asks_update ∷ begin writes)
    (lapses (asks_for 3 file (needs file (Status true) ∷ needs file (Bytes true (span_between 0 1024)) ∷ []) ∷ []))
    refl refl

unfoldable pub syncing_words : ℕ
unfolding computed sync_look
syncing_words = 0

pub relocks_meets : Does relocking client freed_first locks_again
unfolding computed
relocks_meets = host_does site_one relocking client owner freed_first locks_again refl refl

pub relocks_lapse : Does relocking client (locks_again ∷ freed_first) (lapses [])
unfolding computed
relocks_lapse = host_does site_one relocking client owner (locks_again ∷ freed_first) (lapses []) refl refl

pub second_meets : Does relocking client (locks_again ∷ freed_first) ends_second
unfolding computed
second_meets = host_does site_one relocking client owner (locks_again ∷ freed_first) ends_second refl refl

pub second_lapse : Does relocking client (ends_second ∷ locks_again ∷ freed_first) (lapses [])
unfolding computed
second_lapse =
    host_does site_one relocking client owner (ends_second ∷ locks_again ∷ freed_first) (lapses []) refl refl

pub again_meets : Does relocking client (ends_second ∷ locks_again ∷ freed_first) ends_again
unfolding computed
again_meets =
    host_does site_one relocking client owner (ends_second ∷ locks_again ∷ freed_first) ends_again refl refl

pub again_lapse : Does relocking client (ends_again ∷ ends_second ∷ locks_again ∷ freed_first) (lapses [])
unfolding computed
again_lapse =
    host_does site_one relocking client owner (ends_again ∷ ends_second ∷ locks_again ∷ freed_first) (lapses []) refl
    refl

abbrev one_block : List Step
one_block = learns_first_block ∷ gives_first_block ∷ asks_second_block ∷ grown

pub both_meets : Does widening client one_block takes_second_block
unfolding computed
both_meets = host_does site_one widening client owner one_block takes_second_block refl refl

pub both_lapse : Does widening client (takes_second_block ∷ one_block) (lapses (asks_both ∷ []))
unfolding computed
both_lapse =
    host_does site_one widening client owner (takes_second_block ∷ one_block) (lapses (asks_both ∷ [])) refl refl

abbrev awaiting : List Step
awaiting = asks_status ∷ learns_status ∷ gives_status ∷ grown

pub shown_meets : Does syncing client awaiting gives_shown
unfolding syncing_words
shown_meets = host_does site_one syncing client owner awaiting gives_shown refl refl

pub shown_lapse : Does syncing client (gives_shown ∷ awaiting) (lapses (to_server 1 (GiveBack shown_gift) ∷ []))
unfolding syncing_words
shown_lapse =
    host_does site_one syncing client owner (gives_shown ∷ awaiting)
    (lapses (to_server 1 (GiveBack shown_gift) ∷ [])) refl refl

pub unmade_meets : Does writing client grown hears_unmade
unfolding computed
unmade_meets = host_does site_one writing client owner grown hears_unmade refl refl

pub unmade_lapse : Does writing client (hears_unmade ∷ grown) (lapses [])
unfolding computed
unmade_lapse = host_does site_one writing client owner (hears_unmade ∷ grown) (lapses []) refl refl

pub moved_meets : Does writing client (enters writes ∷ greets writes ∷ []) hears_moved
unfolding computed
moved_meets = host_does site_one writing client owner (enters writes ∷ greets writes ∷ []) hears_moved refl refl

pub bytes_meets : Does writing client (enters writes ∷ greets writes ∷ []) hears_bytes
unfolding computed
bytes_meets = host_does site_one writing client owner (enters writes ∷ greets writes ∷ []) hears_bytes refl refl

pub other_meets : Does writing client grown returns_other
unfolding computed
other_meets = host_does site_one writing client owner grown returns_other refl refl

pub other_lapse : Does writing client (returns_other ∷ grown) (lapses [])
unfolding computed
other_lapse = host_does site_one writing client owner (returns_other ∷ grown) (lapses []) refl refl
