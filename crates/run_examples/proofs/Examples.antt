-- The examples: each test is computed.
use Rattle.std.proofs.Common.{[], refl, ◌∷◌, ℕ}
use Rattle.need_host.specs.Calls.{call_look, write_look, lock_look}
use Rattle.message_types.specs.declared.message.Body.TheVariants.{GiveBack, Bye}
use Rattle.run_tokens.specs.JournalWorked.{owner}
use Rattle.run_rules.specs.Messages.{home}
use Rattle.run_tokens.specs.Worked.{client, site_one, to_server}
use Rattle.run_examples.specs.Laws.{Does, locking, stopping, writing}
use Rattle.run_examples.specs.Steps.{asks_lock, asks_update, begin, claims_all, claims_gift, ends, frees, gift}
use Rattle.run_examples.specs.Steps.{gives, grown, grows, hears_bye, keeps, lapses, learns, learns_freed}
use Rattle.run_examples.specs.Steps.{lock_gift, locked, locks, reclaimed, restarted, restarted_late, says_bye}
use Rattle.run_examples.specs.Steps.{stops, takes_lock, writes}
use Rattle.run_examples.proofs.Words.{said, is_about, is_present, learnt_by, learnt, known, is_known, drops_it}
use Rattle.run_examples.proofs.Words.{held, holds_id, ever, returned_by, returned, given, gives_it, leaves_it}
use Rattle.run_examples.proofs.Words.{owned, made, none_open, is_waited, waits, is_first, fetched_by, granted_by}
use Rattle.run_examples.proofs.Words.{answered, asking, is_at, changed_by, settles_it, settled_by, settled}
use Rattle.run_examples.proofs.Words.{changing, welcomed_by, welcomed, welcomes, is_welcome, kept_by, kept_now}
use Rattle.run_examples.proofs.Words.{has_kept, floor_by, renews, is_above, recalled_by, recalled, brought_by}
use Rattle.run_examples.proofs.Words.{uses_by, takes_by, may_take, brought}
use Rattle.run_examples.proofs.TokenChecks.{is_down, is_bye, says, is_place, goes_right, of_file, was_made}
use Rattle.run_examples.proofs.TokenChecks.{follows, asks, shares, claimed, names_it, in_give, names_all, is_due}
use Rattle.run_examples.proofs.TokenChecks.{claim_tests, is_claim, goes_to, may_return, is_settled, had}
use Rattle.run_examples.proofs.TokenChecks.{leaves_all, token_tests}
use Rattle.run_examples.proofs.LabelWords.{same_use, begun, is_fine, ends_use, ends_by, gives_use, stays_used}
use Rattle.run_examples.proofs.LabelWords.{in_use, is_used, frees as frees_, is_ending, is_local}
use Rattle.run_examples.proofs.LabelWords.{counted_by, counted}
use Rattle.run_examples.proofs.DirtWords.{range, written_at, spots_of, spots, kind_updates, updates_byte}
use Rattle.run_examples.proofs.DirtWords.{updates_status, takes_status, has_length, newer}
use Rattle.run_examples.proofs.DirtWords.{last_lengths, has_present, length_clean, length_dirty, byte_dirty}
use Rattle.run_examples.proofs.DirtWords.{dirty_under, is_clean}
use Rattle.run_examples.proofs.CallWords.{ends_k, tells_end, learns_end, has_reply, is_ended, asked_in}
use Rattle.run_examples.proofs.CallWords.{stays_open, open_calls, begun_by, begins_now, goes_on, turns}
use Rattle.run_examples.proofs.CallWords.{led_place, led_by, led_of, enters_now, entered}
use Rattle.run_examples.proofs.StanceChecks.{labels, lock_by, opening_by, locks_of, opens_of, needs_server}
use Rattle.run_examples.proofs.StanceChecks.{is_lock_kind, is_open_kind, gives_with, gives_label, leads, seen_in}
use Rattle.run_examples.proofs.StanceChecks.{one_id, each_one_id, stance_tests}
use Rattle.run_examples.proofs.AnswerChecks.{same_place, same_call, same_reply, spans_all, covers_kind}
use Rattle.run_examples.proofs.AnswerChecks.{covers_it, lacks_kind, lacks_it, replies_so, no_reply, is_that}
use Rattle.run_examples.proofs.AnswerChecks.{answered_right, cant, turn_right, is_short, is_file, wrote_right}
use Rattle.run_examples.proofs.AnswerChecks.{writes_file, written_right, is_lock_of, is_exact}
use Rattle.run_examples.proofs.AnswerChecks.{takes_lock as takes_lock_, lock_right, begun_right, is_sync, synced}
use Rattle.run_examples.proofs.AnswerChecks.{ends_in, freed_right, is_first_or_on, no_asked, answer_tests}
use Rattle.run_examples.proofs.GiveChecks.{positions, owns_update, gives_byte, leaves_byte, byte_right}
use Rattle.run_examples.proofs.GiveChecks.{byte_saved, dirty_length, has_seen, takes_length, length_kept}
use Rattle.run_examples.proofs.GiveChecks.{frees_by, is_call, ends_right, is_give, sends_give, was_first}
use Rattle.run_examples.proofs.GiveChecks.{sent_right, is_next, same_file, used_right, length_right, length_too}
use Rattle.run_examples.proofs.GiveChecks.{give_tests, left_dirty, has_dirty, is_dirty_id, is_on_way, stays_back}
use Rattle.run_examples.proofs.GiveChecks.{gives_again, revoke_tests, kept_right, recall_tests}
use Rattle.run_examples.proofs.LapseChecks.{is_lapse, is_hello, is_reclaim, is_restarted, is_answer, goes_as}
use Rattle.run_examples.proofs.LapseChecks.{sends_bye, byes_at, has_bye, claims_at, raises_at, answers_at}
use Rattle.run_examples.proofs.LapseChecks.{has_claim, gives_as, greets_welcome, gives_late, byes_late}
use Rattle.run_examples.proofs.LapseChecks.{claims_late, late_right, lapse_tests, greeted, learns_restart}
use Rattle.run_examples.proofs.LapseChecks.{gives_restarted, restart_right, claims_only, answered_all}
use Rattle.run_examples.proofs.LapseChecks.{resend_tests, taken_or_held, take_tests}
use Rattle.run_examples.proofs.LeaveChecks.{is_end, idle, few_idle, all_dropped, begins_as, says_down}
use Rattle.run_examples.proofs.LeaveChecks.{deed_right, next_right, is_stop_deed, is_stop_line, line_right}
use Rattle.run_examples.proofs.LeaveChecks.{line_tests, finds_it, finds_from, syncs_token, last_use, may_leave}
use Rattle.run_examples.proofs.LeaveChecks.{is_evict, leave_tests, taken_before, is_first_use, ends_first}
use Rattle.run_examples.proofs.LeaveChecks.{at_its_end, implied_right, bye_right, end_right, end_tests}
use Rattle.run_examples.proofs.AskTests.{ask_words}
use Rattle.run_examples.proofs.HostChecks.{host_tests, host_does}
use Rattle.run_examples.proofs.FetchWords.{is_asking, is_fetch, one_number}
use Rattle.run_examples.proofs.LapseChecks.{fetch_late, fetches_as}

-- all words of the tests
unfoldable pub computed : ℕ
unfolding home call_look write_look lock_look said is_about is_present learnt_by learnt known is_known drops_it held holds_id ever returned_by returned given gives_it leaves_it owned made none_open is_waited waits is_first fetched_by granted_by answered asking is_at changed_by settles_it settled_by settled changing welcomed_by welcomed welcomes is_welcome kept_by kept_now has_kept floor_by renews is_above recalled_by recalled brought_by uses_by takes_by may_take brought is_down is_bye says is_place goes_right of_file was_made follows asks shares claimed names_it in_give names_all is_due claim_tests is_claim goes_to may_return is_settled had leaves_all token_tests same_use begun is_fine ends_use ends_by gives_use stays_used in_use is_used frees_ is_ending is_local counted_by counted range written_at spots_of spots kind_updates updates_byte updates_status takes_status has_length newer last_lengths has_present length_clean length_dirty byte_dirty dirty_under is_clean ends_k tells_end learns_end has_reply is_ended asked_in stays_open open_calls begun_by begins_now goes_on turns led_place led_by led_of enters_now entered labels lock_by opening_by locks_of opens_of needs_server is_lock_kind is_open_kind gives_with gives_label leads seen_in one_id each_one_id stance_tests same_place same_call same_reply spans_all covers_kind covers_it lacks_kind lacks_it replies_so no_reply is_that answered_right cant turn_right is_short is_file wrote_right writes_file written_right is_lock_of is_exact takes_lock_ lock_right begun_right is_sync synced ends_in freed_right is_first_or_on no_asked answer_tests ask_words positions owns_update gives_byte leaves_byte byte_right byte_saved dirty_length has_seen takes_length length_kept frees_by is_call ends_right is_give sends_give was_first sent_right is_next same_file used_right length_right length_too give_tests left_dirty has_dirty is_dirty_id is_on_way stays_back gives_again revoke_tests kept_right recall_tests is_lapse is_hello is_reclaim is_restarted is_answer goes_as sends_bye byes_at has_bye claims_at raises_at answers_at has_claim gives_as is_fetch is_asking one_number fetches_as fetch_late greets_welcome gives_late byes_late claims_late late_right lapse_tests greeted learns_restart gives_restarted restart_right claims_only answered_all resend_tests taken_or_held take_tests is_end idle few_idle all_dropped begins_as says_down deed_right next_right is_stop_deed is_stop_line line_right line_tests finds_it finds_from syncs_token last_use may_leave is_evict leave_tests taken_before is_first_use ends_first implied_right bye_right at_its_end end_right end_tests host_tests
computed = 0

pub grows_meets : Does writing client (asks_update ∷ begin writes) (grows)
unfolding computed
grows_meets = host_does site_one writing client owner (asks_update ∷ begin writes) (grows) refl refl

pub grows_lapse : Does writing client (grown) (lapses [])
unfolding computed
grows_lapse = host_does site_one writing client owner (grown) (lapses []) refl refl

pub gives_meets : Does writing client (grown) (gives)
unfolding computed
gives_meets = host_does site_one writing client owner (grown) (gives) refl refl

pub gives_lapse : Does writing client (gives ∷ grown) (lapses (to_server 1 (GiveBack gift) ∷ []))
unfolding computed
gives_lapse = host_does site_one writing client owner (gives ∷ grown) (lapses (to_server 1 (GiveBack gift)
    ∷ [])) refl refl

pub learns_meets : Does writing client (gives ∷ grown) (learns)
unfolding computed
learns_meets = host_does site_one writing client owner (gives ∷ grown) (learns) refl refl

pub learns_lapse : Does writing client (learns ∷ gives ∷ grown) (lapses [])
unfolding computed
learns_lapse = host_does site_one writing client owner (learns ∷ gives ∷ grown) (lapses []) refl refl

pub restarted_meets : Does writing client (grown) (restarted)
unfolding computed
restarted_meets = host_does site_one writing client owner (grown) (restarted) refl refl

pub restarted_lapse : Does writing client (restarted ∷ grown) (lapses (claims_all ∷ []))
unfolding computed
restarted_lapse = host_does site_one writing client owner (restarted ∷ grown) (lapses (claims_all ∷ [])) refl refl

pub late_meets : Does writing client (gives ∷ grown) (restarted_late)
unfolding computed
late_meets = host_does site_one writing client owner (gives ∷ grown) (restarted_late) refl refl

pub late_lapse : Does writing client (restarted_late ∷ gives ∷ grown) (lapses (to_server 2 (GiveBack gift)
    ∷ claims_gift ∷ []))
unfolding computed
late_lapse = host_does site_one writing client owner (restarted_late ∷ gives ∷ grown) (lapses (to_server 2
    (GiveBack gift) ∷ claims_gift ∷ [])) refl refl

pub reclaimed_meets : Does writing client (restarted ∷ grown) (reclaimed)
unfolding computed
reclaimed_meets = host_does site_one writing client owner (restarted ∷ grown) (reclaimed) refl refl

pub reclaimed_lapse : Does writing client (reclaimed ∷ restarted ∷ grown) (lapses [])
unfolding computed
reclaimed_lapse = host_does site_one writing client owner (reclaimed ∷ restarted ∷ grown) (lapses []) refl refl

pub stops_meets : Does stopping client (grown) (stops)
unfolding computed
stops_meets = host_does site_one stopping client owner (grown) (stops) refl refl

pub ends_meets : Does writing client (grown) (ends)
unfolding computed
ends_meets = host_does site_one writing client owner (grown) (ends) refl refl

pub ends_lapse : Does writing client (ends ∷ grown) (lapses (to_server 1 (GiveBack gift) ∷ []))
unfolding computed
ends_lapse = host_does site_one writing client owner (ends ∷ grown) (lapses (to_server 1 (GiveBack gift)
    ∷ [])) refl refl

pub bye_meets : Does writing client (learns ∷ ends ∷ grown) (says_bye)
unfolding computed
bye_meets = host_does site_one writing client owner (learns ∷ ends ∷ grown) (says_bye) refl refl

pub bye_lapse : Does writing client (says_bye ∷ learns ∷ ends ∷ grown) (lapses (to_server 1 Bye ∷ []))
unfolding computed
bye_lapse = host_does site_one writing client owner (says_bye ∷ learns ∷ ends ∷ grown) (lapses (to_server 1 Bye
    ∷ [])) refl refl

pub hears_meets : Does writing client (says_bye ∷ learns ∷ ends ∷ grown) (hears_bye)
unfolding computed
hears_meets = host_does site_one writing client owner (says_bye ∷ learns ∷ ends ∷ grown) (hears_bye) refl refl

pub hears_lapse : Does writing client (hears_bye ∷ says_bye ∷ learns ∷ ends ∷ grown) (lapses [])
unfolding computed
hears_lapse = host_does site_one writing client owner (hears_bye ∷ says_bye ∷ learns ∷ ends ∷ grown)
    (lapses []) refl refl

pub takes_meets : Does locking client (asks_lock ∷ begin locks) (takes_lock)
unfolding computed
takes_meets = host_does site_one locking client owner (asks_lock ∷ begin locks) (takes_lock) refl refl

pub takes_lapse : Does locking client (locked) (lapses [])
unfolding computed
takes_lapse = host_does site_one locking client owner (locked) (lapses []) refl refl

pub keeps_meets : Does locking client (locked) (keeps)
unfolding computed
keeps_meets = host_does site_one locking client owner (locked) (keeps) refl refl

pub keeps_lapse : Does locking client (keeps ∷ locked) (lapses [])
unfolding computed
keeps_lapse = host_does site_one locking client owner (keeps ∷ locked) (lapses []) refl refl

pub frees_meets : Does locking client (keeps ∷ locked) (frees)
unfolding computed
frees_meets = host_does site_one locking client owner (keeps ∷ locked) (frees) refl refl

pub frees_lapse : Does locking client (frees ∷ keeps ∷ locked) (lapses (to_server 1 (GiveBack lock_gift) ∷ []))
unfolding computed
frees_lapse = host_does site_one locking client owner (frees ∷ keeps ∷ locked) (lapses (to_server 1
    (GiveBack lock_gift) ∷ [])) refl refl

pub freed_meets : Does locking client (frees ∷ keeps ∷ locked) (learns_freed)
unfolding computed
freed_meets = host_does site_one locking client owner (frees ∷ keeps ∷ locked) (learns_freed) refl refl

pub freed_lapse : Does locking client (learns_freed ∷ frees ∷ keeps ∷ locked) (lapses [])
unfolding computed
freed_lapse = host_does site_one locking client owner (learns_freed ∷ frees ∷ keeps ∷ locked) (lapses []) refl refl
