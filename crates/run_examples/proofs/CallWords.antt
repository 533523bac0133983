-- Open calls, and what a host knows of itself, as plain data.
use Rattle.std.proofs.Common.{Bool, List, None, Option, Some, [], ap, false, inl, inr, refl, subst, sym, true}
use Rattle.std.proofs.Common.{if◌then◌else◌, ℕ, ◌&&◌, ◌++◌, ◌||◌, ◌==◌, ◌∙◌, ◌∷◌, ◌≡◌}
use Rattle.std.proofs.lemmas.Bool.{and_parts, and_from, or_cases, or_left, or_right, eqb-true, eq-eqb}
use Rattle.std.specs.Prelude.{not, flat_map}
use Rattle.std.specs.List.{filter, list_all, list_any}
use Rattle.base_types.specs.declared.ids.FilesetId.{FilesetId}
use Rattle.base_types.specs.declared.ids.ServerId.{ServerId}
use Rattle.tree_calls.specs.declared.call.Call.{Call}
use Rattle.tree_calls.specs.declared.reply.Reply.{Reply}
use Rattle.need_host.specs.Questions.{fileset_of}
use Rattle.message_types.specs.declared.giving.Ends.{Ends}
use Rattle.message_types.specs.declared.giving.Give.{Give}
use Rattle.message_types.specs.declared.message.Body.{Body}
use Rattle.message_types.specs.declared.message.Body.TheVariants.{Change}
use Rattle.message_types.specs.declared.message.Message.{Message}
use Rattle.message_types.specs.declared.telling.Done.{Done as DoneOf}
use Rattle.message_types.specs.declared.telling.DoneIs.{DoneIs}
use Rattle.message_types.specs.declared.telling.DoneIs.TheVariants.{Known as IsFileset, Reply as HasReply}
use Rattle.run_rules.specs.Messages.{Said}
use Rattle.run_rules.specs.Past.{In}
use Rattle.run_rules.specs.Tokens.{BeginsCall, CallGoesOn, CauseEnds, DoneCounts, HasCall, IsOpen, LearnsEnd}
use Rattle.run_rules.specs.Tokens.{number_of}
use Rattle.run_rules.specs.Views.{Entered, Enters}
use Rattle.run_rules.specs.declared.applied.Answer.{Answer}
use Rattle.run_rules.specs.declared.step.Asked.{Asked}
use Rattle.run_rules.specs.declared.step.Step.{Step}
use Rattle.run_examples.proofs.Tests.{is_not, not_is, at_all, some_in, any_of, in_front, in_back}
use Rattle.run_examples.proofs.Tests.{in_split}
use Rattle.run_examples.proofs.Tests.{in_filter, from_filter, in_flat, from_flat, if_in, in_if, same_server}
use Rattle.run_examples.proofs.Tests.{same_fileset}
use Rattle.run_examples.proofs.Tests.{server_is, servers, fileset_is, filesets, same_number}
use Rattle.run_examples.proofs.Tests.{number_is, numbers}
use Rattle.run_examples.proofs.Words.{said, in_said, said_in, learnt, learns_in, in_learns, is_known}
use Rattle.run_examples.proofs.Words.{known_yes, known_is}
use Rattle.run_examples.proofs.Words.{made, made_in, in_made}
use Rattle.run_examples.proofs.LabelWords.{is_local, local_tail, counted}
use Rattle.run_examples.proofs.LabelWords.{in_counted, counted_in}
use Rattle.run_examples.proofs.LabelWords.{counts_to, counts_here, all_not}
use Rattle.run_examples.proofs.TokenChecks.{goes_to}

unfoldable pub ends_k : Option Ends → ℕ → Bool
ends_k None k = false
ends_k (Some ends) k = ends.k == k

unfoldable pub tells_end : List Step → Step → ℕ → Give → Bool
tells_end past s k g =
    ends_k g.ends k
    && (list_any (same_number (number_of g)) (learnt past s.cause) && not (is_known past (number_of g)))

unfoldable pub learns_end : List Step → Step → ℕ → Bool
learns_end past s k = list_any (tells_end past s k) (made past)

ends_k_yes : (o : Option Ends) (k : ℕ) → ends_k o k ≡ true → (ends : Ends) × (o ≡ Some ends) × (ends.k ≡ k)
unfolding ends_k tells_end learns_end
ends_k_yes None k e = absurd (cc)
ends_k_yes (Some ends) k e = (ends, refl, eqb-true ends.k k e)

learns_end_yes : (past : List Step) (s : Step) (call : Asked) → learns_end past s call.k ≡ true → LearnsEnd past s call
unfolding ends_k tells_end learns_end
learns_end_yes past s call e =
    let p = some_in (tells_end past s call.k) (made past) e in
    let g = p.0 in
    let a = list_any (same_number (number_of g)) (learnt past s.cause) in
    let q = and_parts (ends_k g.ends call.k) (a && not (is_known past (number_of g))) p.2 in
    let r = and_parts a (not (is_known past (number_of g))) q.1 in
    let k = ends_k_yes g.ends call.k q.0 in
    let l = some_in (same_number (number_of g)) (learnt past s.cause) r.0 in (
      g,
      k.0,
      in_made past g p.1,
      k.1,
      k.2,
      in_learns past s (number_of g) s.cause refl (subst (λ x. In x (learnt past s.cause)) (sym (number_is
          (number_of g) l.0 l.2)) l.1),
      λ x. is_not (is_known past (number_of g)) r.1 (known_is past (number_of g) x),
    )

learns_end_is : (past : List Step) (s : Step) (call : Asked) → LearnsEnd past s call → learns_end past s call.k ≡ true
unfolding ends_k tells_end learns_end
learns_end_is past s call (g, ends, m, is, k, l, n) =
    any_of (tells_end past s call.k) (made past) g (made_in past g m)
    (and_from (ends_k g.ends call.k) (list_any (same_number (number_of g)) (learnt past s.cause) && not
    (is_known past (number_of g)))
    (subst (λ o. ends_k o call.k ≡ true) (sym is) (eq-eqb ends.k call.k k))
    (and_from (list_any (same_number (number_of g)) (learnt past s.cause)) (not (is_known past (number_of g)))
    (any_of (same_number (number_of g)) (learnt past s.cause) (number_of g) (learns_in past s (number_of g) l)
    (numbers (number_of g) (number_of g) refl))
    (not_is (is_known past (number_of g)) (λ e. n (known_yes past (number_of g) e)))))

unfoldable pub has_reply : DoneIs → Bool
has_reply (HasReply reply) = true
has_reply _ = false

reply_yes : (d : DoneIs) → has_reply d ≡ true → (reply : Reply) × (d ≡ HasReply reply)
unfolding ends_k tells_end learns_end has_reply
reply_yes (HasReply reply) e = (reply, refl)
reply_yes d e = absurd (cc)

unfoldable pub is_ended : ServerId → List Step → Step → ℕ → Bool
is_ended site past s k = list_any (λ d. has_reply d.outcome) (counted site past s.cause) || learns_end past s k

pub ended_yes : (site : ServerId) (past : List Step) (s : Step) (call : Asked) → is_ended site past s call.k ≡ true
    → CauseEnds past s call
unfolding ends_k tells_end learns_end has_reply is_ended
ended_yes site past s call e =
    elim (or_cases (list_any (λ d. has_reply d.outcome) (counted site past s.cause)) (learns_end past s call.k) e) [
      | inl p ↦ (
          let q = some_in (λ d. has_reply d.outcome) (counted site past s.cause) p in
          let r = reply_yes q.0.outcome q.2 in
          inl (site, q.0, r.0, in_counted site past s q.0 q.1, r.1)
          )
      | inr p ↦ inr (learns_end_yes past s call p)
    ]

pub ended_is : (site : ServerId) (past : List Step) (s : Step) (call : Asked) → is_local site past ≡ true
    → CauseEnds past s call
    → is_ended site past s call.k ≡ true
unfolding ends_k tells_end learns_end has_reply is_ended
ended_is site past s call local (inl (v, d, reply, c, is)) =
    or_left (list_any (λ d. has_reply d.outcome) (counted site past s.cause)) (learns_end past s call.k)
    (any_of (λ (d : DoneOf). has_reply d.outcome) (counted site past s.cause) d (counted_in site past s d
    (counts_here site past s v d local c))
    (subst (λ x. has_reply x ≡ true) (sym is) refl))
ended_is site past s call local (inr x) =
    or_right (list_any (λ d. has_reply d.outcome) (counted site past s.cause)) (learns_end past s call.k)
    (learns_end_is past s call x)

unfoldable pub asked_in : Option Asked → List Asked
asked_in None = []
asked_in (Some call) = call ∷ []

unfoldable pub stays_open : ServerId → List Step → Step → Asked → Bool
stays_open site past s call = not (is_ended site past s call.k) && list_all (λ a. not (a.k == call.k)) s.answers

unfoldable pub open_calls : ServerId → List Step → List Asked
open_calls site [] = []
open_calls site (s ∷ past) = asked_in s.asked ++ filter (stays_open site past s) (open_calls site past)

asked_is : (o : Option Asked) (call : Asked) → o ≡ Some call → In call (asked_in o)
unfolding ends_k tells_end learns_end has_reply is_ended asked_in stays_open open_calls
asked_is o call e = subst (λ x. In call (asked_in x)) (sym e) (inl refl)

is_asked : (o : Option Asked) (call : Asked) → In call (asked_in o) → o ≡ Some call
unfolding ends_k tells_end learns_end has_reply is_ended asked_in stays_open open_calls
is_asked None call i = elim i [ ]
is_asked (Some its) call (inl e) = λ i. Some (sym e i)
is_asked (Some its) call (inr e) = elim e [ ]

pub open_in : (site : ServerId) (past : List Step) (call : Asked) → is_local site past ≡ true → IsOpen past call
    → In call (open_calls site past)
unfolding ends_k tells_end learns_end has_reply is_ended asked_in stays_open open_calls
open_in site [] call local x = elim x [ ]
open_in site (s ∷ past) call local (inl e) = in_front call (asked_in s.asked) (filter (stays_open site past s)
    (open_calls site past)) (asked_is s.asked call e)
open_in site (s ∷ past) call local (inr (o, unended, unanswered)) =
    in_back call (asked_in s.asked) (filter (stays_open site past s) (open_calls site past))
    (in_filter (stays_open site past s) (open_calls site past) call (open_in site past call
    (local_tail site s past local) o)
    (and_from (not (is_ended site past s call.k)) (list_all (λ a. not (a.k == call.k)) s.answers)
    (not_is (is_ended site past s call.k) (λ e. unended (ended_yes site past s call e)))
    (all_not (λ (a : Answer). a.k == call.k) s.answers (λ a m e. unanswered a m (eqb-true a.k call.k e)))))

pub in_open : (site : ServerId) (past : List Step) (call : Asked) → is_local site past ≡ true → In call
    (open_calls site past) → IsOpen past call
unfolding ends_k tells_end learns_end has_reply is_ended asked_in stays_open open_calls
in_open site [] call local i = elim i [ ]
in_open site (s ∷ past) call local i =
    elim (in_split call (asked_in s.asked) (filter (stays_open site past s) (open_calls site past)) i) [
      | inl p ↦ inl (is_asked s.asked call p)
      | inr p ↦ (
          let q = from_filter (stays_open site past s) (open_calls site past) call p in
          let r = and_parts (not (is_ended site past s call.k)) (list_all (λ a. not (a.k == call.k)) s.answers) q.1 in
          inr (
            in_open site past call (local_tail site s past local) q.0,
            λ x. is_not (is_ended site past s call.k) r.0 (ended_is site past s call (local_tail site s past local) x),
            λ a m e. is_not (a.k == call.k) (at_all (λ (a : Answer). not (a.k == call.k)) s.answers a r.1 m)
                (eq-eqb a.k call.k e),
          )
          )
    ]

-- the calls that a step could answer
abbrev pub the_call : ℕ → Call → Asked
the_call k call = record { k = k; call = call }

unfoldable pub begun_by : Answer → List Asked
begun_by a = if a.first then the_call a.k a.call ∷ [] else []

unfoldable pub begins_now : Step → List Asked
begins_now s = asked_in s.asked ++ flat_map begun_by s.answers

pub begins_in : (s : Step) (k : ℕ) (call : Call) → BeginsCall s k call → In (the_call k call) (begins_now s)
unfolding ends_k tells_end learns_end has_reply is_ended asked_in stays_open open_calls begun_by begins_now
begins_in s k call (inl e) = in_front (the_call k call) (asked_in s.asked) (flat_map begun_by s.answers)
    (asked_is s.asked (the_call k call) e)
begins_in s k call (inr (a, m, f, n, c)) =
    in_back (the_call k call) (asked_in s.asked) (flat_map begun_by s.answers)
    (in_flat begun_by s.answers a (the_call k call) m
    (in_if a.first (the_call k call) (the_call a.k a.call ∷ []) f (inl (λ i. the_call (sym n i) (sym c i)))))

pub in_begins : (s : Step) (c : Asked) → In c (begins_now s) → BeginsCall s c.k c.call
unfolding ends_k tells_end learns_end has_reply is_ended asked_in stays_open open_calls begun_by begins_now
in_begins s c i =
    elim (in_split c (asked_in s.asked) (flat_map begun_by s.answers) i) [
      | inl p ↦ inl (is_asked s.asked c p)
      | inr p ↦ (
          let q = from_flat begun_by s.answers c p in
          let r = if_in q.0.first c (the_call q.0.k q.0.call ∷ []) q.2 in
          inr (
            q.0,
            q.1,
            r.0,
            (elim r.1 [ inl e ↦ sym (ap (λ (x : Asked). x.k) e) | inr e ↦ elim e [ ] ]),
            (elim r.1 [ inl e ↦ sym (ap (λ (x : Asked). x.call) e) | inr e ↦ elim e [ ] ]),
          )
          )
    ]

unfoldable pub goes_on : ServerId → List Step → Step → List Asked
goes_on site past s = filter (λ c. not (is_ended site past s c.k)) (open_calls site past)

unfoldable pub turns : ServerId → List Step → Step → List Asked
turns site past s = begins_now s ++ goes_on site past s

pub goes_in : (site : ServerId) (past : List Step) (s : Step) (k : ℕ) (call : Call) → is_local site past ≡ true
    → CallGoesOn past s k call
    → In (the_call k call) (goes_on site past s)
unfolding ends_k tells_end learns_end has_reply is_ended asked_in stays_open open_calls begun_by begins_now goes_on
    turns
goes_in site past s k call local (o, n) =
    in_filter (λ c. not (is_ended site past s c.k)) (open_calls site past) (the_call k call) (open_in site past
    (the_call k call) local o)
    (not_is (is_ended site past s k) (λ e. n (ended_yes site past s (the_call k call) e)))

pub in_goes : (site : ServerId) (past : List Step) (s : Step) (c : Asked) → is_local site past ≡ true → In c
    (goes_on site past s)
    → CallGoesOn past s c.k c.call
unfolding ends_k tells_end learns_end has_reply is_ended asked_in stays_open open_calls begun_by begins_now goes_on
    turns
in_goes site past s c local i =
    let p = from_filter (λ c. not (is_ended site past s c.k)) (open_calls site past) c i in
    (in_open site past c local p.0, λ x. is_not (is_ended site past s c.k) p.1 (ended_is site past s c local x))

pub turns_in : (site : ServerId) (past : List Step) (s : Step) (k : ℕ) (call : Call) → is_local site past ≡ true
    → HasCall past s k call
    → In (the_call k call) (turns site past s)
unfolding ends_k tells_end learns_end has_reply is_ended asked_in stays_open open_calls begun_by begins_now goes_on
    turns
turns_in site past s k call local (inl b) = in_front (the_call k call) (begins_now s) (goes_on site past s)
    (begins_in s k call b)
turns_in site past s k call local (inr g) = in_back (the_call k call) (begins_now s) (goes_on site past s)
    (goes_in site past s k call local g)

pub in_turns : (site : ServerId) (past : List Step) (s : Step) (c : Asked) → is_local site past ≡ true → In c
    (turns site past s)
    → HasCall past s c.k c.call
unfolding ends_k tells_end learns_end has_reply is_ended asked_in stays_open open_calls begun_by begins_now goes_on
    turns
in_turns site past s c local i =
    elim (in_split c (begins_now s) (goes_on site past s) i) [
      | inl p ↦ inl (in_begins s c p)
      | inr p ↦ inr
          (in_goes site past s c local p)
    ]

-- filesets that the host has entered
pub record Led : Type 0 where
  pub server : ServerId
  pub name : List ℕ
  pub id : FilesetId

abbrev pub led : ServerId → List ℕ → FilesetId → Led
led server name id = record { server = server; name = name; id = id }

unfoldable pub led_place : ServerId → FilesetId → Option (ServerId × List ℕ) → List Led
led_place server id None = []
led_place server id (Some place) = if same_server place.0 server then led server place.1 id ∷ [] else []

unfoldable pub led_by : DoneOf → FilesetId → Message → Body → List Led
led_by d id m (Change c) =
    if c.enter && ((d.bring.number == c.number) && same_fileset d.fileset c.fileset)
    then led_place m.server id (fileset_of c.call) else []
led_by d id m _ = []

unfoldable pub led_of : List Step → DoneOf → DoneIs → List Led
led_of past d (IsFileset id) = flat_map (λ m. led_by d id m m.body) (said past)
led_of past d _ = []

unfoldable pub enters_now : ServerId → List Step → Step → List Led
enters_now site past s = flat_map (λ d. led_of past d d.outcome) (counted site past s.cause)

unfoldable pub entered : ServerId → List Step → List Led
entered site [] = []
entered site (s ∷ past) = enters_now site past s ++ entered site past

led_by_of : (site : ServerId) (past : List Step) (s : Step) (d : DoneOf) (id : FilesetId) (l : Led) (m : Message)
    (b : Body)
    → is_local site past ≡ true → DoneCounts past s site d → d.outcome ≡ IsFileset id → m.body ≡ b → In m (said past)
    → In l (led_by d id m b) → Enters past s l.server l.name l.id
unfolding goes_to is_local ends_k tells_end learns_end has_reply is_ended asked_in stays_open open_calls begun_by
    begins_now goes_on turns led_place led_by led_of enters_now entered
led_by_of site past s d id l m (Change c) local counts out is i j =
    let a = (d.bring.number == c.number) && same_fileset d.fileset c.fileset in
    let p = if_in (c.enter && a) l (led_place m.server id (fileset_of c.call)) j in
    let q = and_parts c.enter a p.0 in
    let r = and_parts (d.bring.number == c.number) (same_fileset d.fileset c.fileset) q.1 in
    go (fileset_of c.call) refl p.1 q.0 (eqb-true d.bring.number c.number r.0) (fileset_is d.fileset c.fileset r.1)
  where
    at : c.fileset.0 ≡ 0 → site ≡ m.server
    at z =
        let t = at_all (λ m. goes_to site m m.body) (said past) m local i in
        let u : goes_to site m (Change c) ≡ true = subst (λ x. goes_to site m x ≡ true) is t in
        sym (server_is m.server site u)

    go : (o : Option (ServerId × List ℕ)) → fileset_of c.call ≡ o → In l (led_place m.server id o) → c.enter ≡ true
        → d.bring.number ≡ c.number → d.fileset ≡ c.fileset → Enters past s l.server l.name l.id
    go None e k en num fs = elim k [ ]
    go (Some place) e k en num fs =
        let x = if_in (same_server place.0 m.server) l (led m.server place.1 id ∷ []) k in
        elim x.1 [
          | inl y ↦ (
              let v = server_is place.0 m.server x.0 in
              subst (λ (z : Led). Enters past s z.server z.name z.id) (sym y) (
                c,
                d,
                m.epoch,
                m.moves,
                subst (λ b. Said past m.server m.epoch m.moves b) is (in_said past m i),
                en,
                e ∙ (λ i. Some (v i, place.1)),
                counts_to past s site m.server d (λ z. at (sym (ap (λ (x : FilesetId). x.0) fs) ∙ z)) counts,
                num,
                fs,
                out,
              )
              )
          | inr y ↦ elim y [ ]
        ]
led_by_of site past s d id l m b local counts out is i j = elim j [ ]

led_of_of : (site : ServerId) (past : List Step) (s : Step) (d : DoneOf) (l : Led) (o : DoneIs)
    → is_local site past ≡ true
    → DoneCounts past s site d → d.outcome ≡ o → In l (led_of past d o) → Enters past s l.server l.name l.id
unfolding ends_k tells_end learns_end has_reply is_ended asked_in stays_open open_calls begun_by begins_now goes_on
    turns led_place led_by led_of enters_now entered
led_of_of site past s d l (IsFileset id) local counts out i =
    let p = from_flat (λ m. led_by d id m m.body) (said past) l i in
    led_by_of site past s d id l p.0 p.0.body local counts out refl p.1 p.2
led_of_of site past s d l o local counts out i = elim i [ ]

in_enters : (site : ServerId) (past : List Step) (s : Step) (l : Led) → is_local site past ≡ true → In l
    (enters_now site past s)
    → Enters past s l.server l.name l.id
unfolding ends_k tells_end learns_end has_reply is_ended asked_in stays_open open_calls begun_by begins_now goes_on
    turns led_place led_by led_of enters_now entered
in_enters site past s l local i =
    let p = from_flat (λ (d : DoneOf). led_of past d d.outcome) (counted site past s.cause) l i in
    led_of_of site past s p.0 l p.0.outcome local (in_counted site past s p.0 p.1) refl p.2

enters_in : (site : ServerId) (past : List Step) (s : Step) (v : ServerId) (name : List ℕ) (id : FilesetId)
    → is_local site past ≡ true
    → Enters past s v name id → In (led v name id) (enters_now site past s)
unfolding ends_k tells_end learns_end has_reply is_ended asked_in stays_open open_calls begun_by begins_now goes_on
    turns led_place led_by led_of enters_now entered
enters_in site past s v name id local (c, d, e, n, x, en, at, counts, num, fs, out) =
    let p = said_in past v e n (Change c) x in
    let m = p.0 in
    let its : In (led v name id) (led_place m.server id (fileset_of c.call)) =
    subst (λ o. In (led v name id) (led_place m.server id o)) (sym at)
    (in_if (same_server v m.server) (led v name id) (led m.server name id ∷ []) (servers v m.server (sym p.2))
    (inl (λ i. led (sym p.2 i) name id)))
    in
    let test : (c.enter && ((d.bring.number == c.number) && same_fileset d.fileset c.fileset)) ≡ true =
    and_from c.enter ((d.bring.number == c.number) && same_fileset d.fileset c.fileset) en
    (and_from (d.bring.number == c.number) (same_fileset d.fileset c.fileset)
    (eq-eqb d.bring.number c.number num) (filesets d.fileset c.fileset fs))
    in
    in_flat (λ (d : DoneOf). led_of past d d.outcome) (counted site past s.cause) d (led v name id)
    (counted_in site past s d (counts_here site past s v d local counts))
    (subst (λ o. In (led v name id) (led_of past d o)) (sym out)
    (in_flat (λ m. led_by d id m m.body) (said past) m (led v name id) p.1
    (subst (λ b. In (led v name id) (led_by d id m b)) (sym p.5)
    (in_if (c.enter && ((d.bring.number == c.number) && same_fileset d.fileset c.fileset)) (led v name id)
    (led_place m.server id (fileset_of c.call)) test its))))

pub entered_in : (site : ServerId) (past : List Step) (v : ServerId) (name : List ℕ) (id : FilesetId)
    → is_local site past ≡ true
    → Entered past v name id → In (led v name id) (entered site past)
unfolding ends_k tells_end learns_end has_reply is_ended asked_in stays_open open_calls begun_by begins_now goes_on
    turns led_place led_by led_of enters_now entered
entered_in site [] v name id local x = elim x [ ]
entered_in site (s ∷ past) v name id local (inl x) =
    in_front (led v name id) (enters_now site past s) (entered site past) (enters_in site past s v name id
    (local_tail site s past local) x)
entered_in site (s ∷ past) v name id local (inr x) =
    in_back (led v name id) (enters_now site past s) (entered site past) (entered_in site past v name id
    (local_tail site s past local) x)

pub in_entered : (site : ServerId) (past : List Step) (l : Led) → is_local site past ≡ true → In l (entered site past)
    → Entered past l.server l.name l.id
unfolding ends_k tells_end learns_end has_reply is_ended asked_in stays_open open_calls begun_by begins_now goes_on
    turns led_place led_by led_of enters_now entered
in_entered site [] l local i = elim i [ ]
in_entered site (s ∷ past) l local i =
    elim (in_split l (enters_now site past s) (entered site past) i) [
      | inl p ↦ inl (in_enters site past s l (local_tail site s past local) p)
      | inr p ↦ inr (in_entered site past l (local_tail site s past local) p)
    ]
