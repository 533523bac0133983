-- What is due of a host that stops.
use Rattle.base_types.specs.declared.ids.Node.TheVariants.{Host}
use Rattle.host_cache.specs.Holding.{IsOnce, tokens_of}
use Rattle.host_leaves.specs.Giving.{leaves_by}
use Rattle.host_leaves.specs.Sending.{message_to}
use Rattle.host_manager.proofs.Evicting.{each_once}
use Rattle.host_manager.proofs.Folding.{saying_says}
use Rattle.host_manager.proofs.LinesDue.{line_due}
use Rattle.host_manager.proofs.OnceSaid.{fold_once, once_more, servers_once}
use Rattle.host_manager.proofs.Parting.{down_only, down_said, drops, stop_runs, told}
use Rattle.host_manager.specs.Closing.{GoesDown, downing}
use Rattle.host_manager.specs.Due.{LineDue}
use Rattle.host_manager.specs.Spoken.{IsFree}
use Rattle.host_tables.proofs.Lists.{in_map}
use Rattle.host_tables.specs.Closing.{goes_down}
use Rattle.host_tables.specs.Drafts.{no_draft, step_of}
use Rattle.host_tables.specs.declared.draft.Draft.{Draft}
use Rattle.host_tables.specs.declared.sites.Site.{Site}
use Rattle.host_tables.specs.declared.tables.Tables.{Tables}
use Rattle.message_types.specs.declared.message.Body.TheVariants.{Down}
use Rattle.message_types.specs.declared.message.Message.{Message}
use Rattle.run_rules.specs.HostDue.{HostDue}
use Rattle.run_rules.specs.HostMay.{HostMay}
use Rattle.run_rules.specs.Past.{EachOnce, In}
use Rattle.run_rules.specs.Tokens.{Held}
use Rattle.run_rules.specs.declared.applied.Leave.{Leave}
use Rattle.run_rules.specs.declared.applied.Why.TheVariants.{Stopped}
use Rattle.run_rules.specs.declared.step.Cause.TheVariants.{Line as LineOf}
use Rattle.script_lines.specs.declared.script.Deed.TheVariants.{Stop}
use Rattle.std.proofs.Common.{List, [], ap, fold, inl, inr, map, refl, subst, sym, ℕ, ◌++◌, ◌∙◌, ◌∷◌, ◌≡◌}
use Rattle.token_types.specs.declared.token.Token.{Token}

-- each Down is to another server
pub downs_once : (m : Tables) (sites : List Site) (d : Draft) → d.sent ≡ [] → EachOnce
    (map (λ (s : Site). s.server) sites)
    → EachOnce (fold (downing m) d sites).sent
downs_once m sites d none once =
    fold_once (downing m) (λ (s : Site). s.server) (λ (y : Message). y.server) (λ y. Unit {0})
    (λ e x sent apart. once_more e.sent (message_to m x.server Down) sent
    (λ i. apart (message_to m x.server Down) i tt refl))
    (λ e x y i. elim (saying_says m x.server Down e y i) [
      | inl j ↦ inl j
      | inr q ↦ inr (ap (λ (z : Message). z.server) q)
    ])
    sites once d (subst (λ (l : List Message). EachOnce l) (sym none) tt)
    (λ y i o j. subst (λ (l : List Message). In y l) none i)

-- the tokens that it drops
token_of : (tokens : List Token) → map (λ (l : Leave). l.token) (map (leaves_by Stopped) tokens) ≡ tokens
token_of [] = refl
token_of (t ∷ tokens) = ap (λ (l : List Token). t ∷ l) (token_of tokens)

pub stop_due : (m new : Tables) (draft : Draft) (number : ℕ) → IsFree m → IsOnce m.cache.held
    → GoesDown m no_draft new draft → LineDue m number Stop (step_of (Host m.host) (LineOf number) draft)
stop_due m new draft number free held_once goes script past running line next deed askable =
    let tables : new ≡ record m { cache = new.cache } = goes.drops.tables in
    let sites : new.sites ≡ m.sites = ap (λ (t : Tables). t.sites) tables in
    let is : draft ≡ told script m past running new.cache =
    goes.says
    ∙ (λ i. fold (downing (tables i)) (goes.drops.draft_is i) (sites i)) in
    let only = down_only script m past running new.cache in
    let its = drops script m past running new.cache in
    let sent = (told script m past running new.cache).sent in
    let step : step_of (Host m.host) (LineOf number) draft ≡ goes_down m.host number its sent =
    ap (step_of (Host m.host) (LineOf number)) (is ∙ only) in
    let may : HostMay script m.host past (goes_down m.host number its sent) =
    subst (HostMay script m.host past) step (stop_runs m new draft number free goes script past running line next
    deed).0 in
    subst (HostDue script m.host past) (sym step)
    (line_due script m.host past (goes_down m.host number its sent) number refl (may.lines.free number refl).0 refl refl
    refl refl
    (λ y i. let r = down_said script m past running new.cache y i in ap (λ (z : Message). z.body) r.2)
    (downs_once (record m { cache = new.cache }) m.sites (record no_draft { dropped = [] ++ its }) refl
    (servers_once script.roster m.sites running.tidy.servers))
    (λ l i.
    let r = in_map (leaves_by Stopped) (tokens_of m.cache.held) l i in
    inr (subst (λ (t : Token). Held past t) (sym (ap (λ (z : Leave). z.token) r.2))
    (running.rests.stands.cache.held r.0 r.1)))
    (subst EachOnce (sym (token_of (tokens_of m.cache.held))) (each_once m.cache.held held_once))
    may.stance)
