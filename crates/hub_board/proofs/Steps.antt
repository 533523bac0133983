-- Lists of steps and flags, one more at a time, and what a turn hands in.
use Rattle.std.specs.List.{cons_option, filter_map}
use Rattle.std.specs.Option.{option_to_list}
use Rattle.std.proofs.lemmas.List.Elements.{filter_map-append}
use Rattle.std.proofs.lemmas.List.Sums.{sum_by_push}
use Rattle.std.proofs.Common.{◌≡◌, ℕ, ◌+◌, ◌<◌, true, false, cond, Option, None, Some, List, [], ◌∷◌, ◌++◌, length}
use Rattle.std.proofs.Common.{get_or, take, map, refl, sym, ap, ◌∙◌, arith}
use Rattle.std.proofs.lemmas.List.{take_more}
use Rattle.message_types.specs.declared.message.Message.{Message}
use Rattle.run_rules.specs.declared.step.Step.{Step}
use Rattle.hub_wire.specs.Networks.{Network, with_flag, with_step}
use Rattle.hub_board.specs.Follows.{gone_in, goes, raise_of, with_raised}
use Rattle.hub_board.specs.declared.follow.Mark.{Mark}
use Rattle.hub_board.specs.Hubs.{all_raised, flagged, tied, with_sent}
use Rattle.hub_board.specs.Ties.{with_all_sent, with_cause, with_sent as tied_by}
use Rattle.hub_board.specs.declared.follow.Follow.{Follow}
use Rattle.hub_board.specs.declared.tie.Tie.{Tie}

-- how many lines go
gone_more : (steps : List Step) (i : ℕ) (s : Step) → i < length steps → s ≡ get_or steps i s
    → gone_in (take (i + 1) steps) ≡ gone_in (take i steps) + cond (goes s.cause) 1 0
gone_more steps i s h e =
    ap gone_in (take_more steps i s h)
    ∙ sum_by_push (λ (x : Step). cond (goes x.cause) 1 0) (take i steps) (get_or steps i s)
    ∙ ap (λ (x : Step). gone_in (take i steps) + cond (goes x.cause) 1 0) (sym e)

pub gone_yes : (steps : List Step) (i : ℕ) (s : Step) → i < length steps → s ≡ get_or steps i s → goes s.cause ≡ true
    → gone_in (take (i + 1) steps) ≡ gone_in (take i steps) + 1
gone_yes steps i s h e g = gone_more steps i s h e ∙ ap (λ b. gone_in (take i steps) + cond b 1 0) g

pub gone_no : (steps : List Step) (i : ℕ) (s : Step) → i < length steps → s ≡ get_or steps i s → goes s.cause ≡ false
    → gone_in (take (i + 1) steps) ≡ gone_in (take i steps)
gone_no steps i s h e g =
    gone_more steps i s h e ∙ ap (λ b. gone_in (take i steps) + cond b 1 0) g
    ∙ (let none : gone_in (take i steps) + 0 ≡ gone_in (take i steps) = omega arith in none)

-- the flags of one more line
flag_alone : (o : Option (List ℕ)) → cons_option o [] ≡ option_to_list o
flag_alone None = refl
flag_alone (Some flag) = refl

pub flags_more : (marks : List Mark) (i : ℕ) (mark : Mark) → i < length marks → mark ≡ get_or marks i mark
    → filter_map raise_of (take (i + 1) marks) ≡ filter_map raise_of (take i marks) ++ option_to_list (raise_of mark)
flags_more marks i mark h e =
    ap (filter_map raise_of) (take_more marks i mark h)
    ∙ filter_map-append raise_of (take i marks) (get_or marks i mark ∷ [])
    ∙ ap (λ fs. filter_map raise_of (take i marks) ++ fs) (flag_alone (raise_of (get_or marks i mark)))
    ∙ ap (λ (m : Mark). filter_map raise_of (take i marks) ++ option_to_list (raise_of m)) (sym e)

sent_append : (net : Network) (steps : List Step) (s : Step) → with_sent net (steps ++ s ∷ []) ≡ with_step
    (with_sent net steps) s.sent
sent_append net [] s = refl
sent_append net (x ∷ steps) s = sent_append (with_step net x.sent) steps s

pub sent_more : (net : Network) (steps : List Step) (i : ℕ) (s : Step) → i < length steps → s ≡ get_or steps i s
    → with_sent net (take (i + 1) steps) ≡ with_step (with_sent net (take i steps)) s.sent
sent_more net steps i s h e =
    ap (with_sent net) (take_more steps i s h) ∙ sent_append net (take i steps) (get_or steps i s)
    ∙ ap (λ (x : Step). with_step (with_sent net (take i steps)) x.sent) (sym e)

flagged_append : (flags : List (List ℕ)) (flag : List ℕ) (net : Network) → flagged (flags ++ flag ∷ []) net
    ≡ with_flag flag (flagged flags net)
flagged_append [] flag net = refl
flagged_append (x ∷ flags) flag net = flagged_append flags flag (with_flag x net)

pub flagged_more : (net : Network) (flags : List (List ℕ)) (i : ℕ) (flag : List ℕ) → i < length flags → flag ≡ get_or
    flags i flag
    → flagged (take (i + 1) flags) net ≡ with_flag flag (flagged (take i flags) net)
flagged_more net flags i flag h e =
    ap (λ fs. flagged fs net) (take_more flags i flag h) ∙ flagged_append (take i flags) (get_or flags i flag) net
    ∙ ap (λ f. with_flag f (flagged (take i flags) net)) (sym e)

raised_append : (flags : List (List ℕ)) (flag : List ℕ) (follows : List Follow)
    → all_raised (flags ++ flag ∷ []) follows ≡ map (with_raised flag) (all_raised flags follows)
raised_append [] flag follows = refl
raised_append (x ∷ flags) flag follows = raised_append flags flag (map (with_raised x) follows)

pub raised_more : (follows : List Follow) (flags : List (List ℕ)) (i : ℕ) (flag : List ℕ) → i < length flags
    → flag ≡ get_or flags i flag
    → all_raised (take (i + 1) flags) follows ≡ map (with_raised flag) (all_raised (take i flags) follows)
raised_more follows flags i flag h e =
    ap (λ fs. all_raised fs follows) (take_more flags i flag h) ∙ raised_append (take i flags) (get_or flags i flag)
    follows
    ∙ ap (λ f. map (with_raised f) (all_raised (take i flags) follows)) (sym e)

tied_append : (ties : List Tie) (steps : List Step) (s : Step)
    → tied ties (steps ++ s ∷ []) ≡ with_all_sent (with_cause (tied ties steps) s.cause) s.sent
tied_append ties [] s = refl
tied_append ties (x ∷ steps) s = tied_append (with_all_sent (with_cause ties x.cause) x.sent) steps s

pub tied_more : (ties : List Tie) (steps : List Step) (i : ℕ) (s : Step) → i < length steps → s ≡ get_or steps i s
    → tied ties (take (i + 1) steps) ≡ with_all_sent (with_cause (tied ties (take i steps)) s.cause) s.sent
tied_more ties steps i s h e =
    ap (tied ties) (take_more steps i s h) ∙ tied_append ties (take i steps) (get_or steps i s)
    ∙ ap (λ (x : Step). with_all_sent (with_cause (tied ties (take i steps)) x.cause) x.sent) (sym e)

sent_one_more : (ties : List Tie) (ms : List Message) (m : Message) → with_all_sent ties (ms ++ m ∷ []) ≡ tied_by
    (with_all_sent ties ms) m
sent_one_more ties [] m = refl
sent_one_more ties (x ∷ ms) m = sent_one_more (tied_by ties x) ms m

pub all_sent_more : (ties : List Tie) (ms : List Message) (i : ℕ) (m : Message) → i < length ms → m ≡ get_or ms i m
    → with_all_sent ties (take (i + 1) ms) ≡ tied_by (with_all_sent ties (take i ms)) m
all_sent_more ties ms i m h e =
    ap (with_all_sent ties) (take_more ms i m h) ∙ sent_one_more ties (take i ms) (get_or ms i m)
    ∙ ap (tied_by (with_all_sent ties (take i ms))) (sym e)
