-- What a server sends and hears at once, computed.
use Rattle.std.proofs.Common.{Bool, List, false, refl, true}
use Rattle.std.proofs.Common.{ℕ, ◌&&◌, ◌||◌, ◌==◌, ◌≡◌}
use Rattle.std.proofs.lemmas.Bool.{and_parts}
use Rattle.std.specs.Prelude.{not}
use Rattle.std.specs.List.{list_any}
use Rattle.base_types.specs.declared.ids.HostId.{HostId}
use Rattle.message_types.specs.declared.giving.AppliedGive.{AppliedGive}
use Rattle.message_types.specs.declared.giving.Give.{Give}
use Rattle.message_types.specs.declared.message.Body.{Body}
use Rattle.message_types.specs.declared.message.Body.TheVariants.{GiveBack}
use Rattle.message_types.specs.declared.message.Body.TheVariants.{Gone}
use Rattle.message_types.specs.declared.message.Message.{Message}
use Rattle.run_rules.specs.Doings.{Doing, SentNow, epoch}
use Rattle.run_rules.specs.Tokens.{number_of}
use Rattle.run_rules.specs.declared.step.Cause.{Cause}
use Rattle.run_rules.specs.declared.step.Cause.TheVariants.{Restart}
use Rattle.run_rules.specs.declared.step.Step.{Step}
use Rattle.run_examples.proofs.Tests.{implies, some_in}
use Rattle.run_examples.proofs.Tests.{same_host, host_is, same_number, number_is}
use Rattle.run_examples.proofs.Words.{by_message}
use Rattle.run_examples.proofs.TokenChecks.{is_bye}
use Rattle.run_examples.proofs.LapseChecks.{is_hello, is_lapse, is_restarted}
use Rattle.run_examples.proofs.ServerWords.{down, live}
use Rattle.run_examples.proofs.ServerWords.{reclaimed}

-- what is sent
unfoldable pub is_to : HostId → (Body → Bool) → Message → Bool
is_to h is m = same_host m.host h && is m.body

unfoldable pub sends_to : Step → HostId → (Body → Bool) → Bool
sends_to s h is = list_any (is_to h is) s.sent

pub sends_now : (s : Step) (h : HostId) (is : Body → Bool) (b : Body) → ((c : Body) → is c ≡ true → c ≡ b)
    → sends_to s h is ≡ true → SentNow s h b
unfolding is_to sends_to
sends_now s h is b only t =
    let p = some_in (is_to h is) s.sent t in
    let q = and_parts (same_host p.0.host h) (is p.0.body) p.2 in
    (p.0, p.1, host_is p.0.host h q.0, only p.0.body q.1)

unfoldable pub is_gone : AppliedGive → Body → Bool
is_gone number (Gone its) = same_number its number
is_gone number _ = false

pub gone_body : (number : AppliedGive) (b : Body) → is_gone number b ≡ true → b ≡ Gone number
unfolding is_gone
gone_body number (Gone its) t = let p = number_is its number t in λ i. Gone (p i)
gone_body number b t = absurd (cc)

unfoldable pub is_restart : Cause → Bool
is_restart (Restart n) = true
is_restart _ = false

pub restart_cause : (c : Cause) → is_restart c ≡ true → (line : ℕ) × (c ≡ Restart line)
unfolding is_restart
restart_cause (Restart line) t = (line, refl)
restart_cause c t = absurd (cc)

-- the message is taken
unfoldable pub is_taken : List Doing → Message → Bool
is_taken past m = live past m.host && (m.epoch == epoch past)

unfoldable pub gives_gone : Step → Message → Body → Bool
gives_gone s m (GiveBack g) = sends_to s m.host (is_gone (number_of g))
gives_gone s m _ = true

unfoldable pub gives_number : AppliedGive → Body → Bool
gives_number number (GiveBack g) = same_number (number_of g) number
gives_number number _ = false

pub gives_body : (number : AppliedGive) (b : Body) → gives_number number b ≡ true → (g : Give) × (b ≡ GiveBack g) ×
    (number_of g ≡ number)
unfolding gives_number
gives_body number (GiveBack g) t = (g, refl, number_is (number_of g) number t)
gives_body number b t = absurd (cc)

unfoldable pub gone_only : List Doing → Cause → Message → Body → Bool
gone_only past cause k (Gone number) =
    by_message false (λ m. (same_host m.host k.host && is_taken past m) && gives_number number m.body) cause
gone_only past cause k _ = true

unfoldable pub reclaimed_by : List Doing → Cause → Message → Bool
reclaimed_by past cause k =
    by_message false (λ m. is_hello m.body && same_host m.host k.host) cause
    && (not (down past k.host) && not (live past k.host))

unfoldable pub bye_only : List Doing → Cause → Message → Bool
bye_only past cause k =
    implies (is_bye k.body) (by_message false (λ m. is_bye m.body && same_host m.host k.host) cause && not
    (down past k.host))

unfoldable pub restarted_only : List Doing → Cause → Message → Bool
restarted_only past cause k =
    implies (is_restarted k.body) (live past k.host && (is_restart cause || (is_lapse cause && not
    (reclaimed past k.host))))

unfoldable pub tells_restart : List Doing → Step → HostId → Bool
tells_restart past s h = implies (live past h) (sends_to s h is_restarted)

unfoldable pub tells_again : List Doing → Step → HostId → Bool
tells_again past s h = implies (live past h && not (reclaimed past h)) (sends_to s h is_restarted)
