-- A turn, from its parts.
use Rattle.std.proofs.Common.{◌≡◌, ℕ, Bool, true, false, cond, ◌&&◌, List, ◌++◌, Option, None, Some, is_some, refl}
use Rattle.std.proofs.Common.{ap, ◌∙◌}
use Rattle.std.specs.Option.{option_map}
use Rattle.base_types.specs.declared.ids.Node.{Node}
use Rattle.message_types.specs.declared.message.Message.{Message as MessageOf}
use Rattle.run_rules.specs.declared.step.Step.{Step}
use Rattle.hub_wire.specs.Networks.{lapse_place, next_copy}
use Rattle.hub_board.specs.Hubs.{Hubbed, begins, flag_of, flags_of, gift_for, gift_in, given_of, may_begin, noted}
use Rattle.hub_board.specs.Hubs.{with_sent, with_steps, without}
use Rattle.hub_board.specs.Turning.{HasTurned, IsPrepared, Posted, entered}
use Rattle.hub_board.specs.declared.given.Gift.{Gift}
use Rattle.hub_board.specs.declared.given.Gift.TheVariants.{Message, Begun, Raised, Lapse}
use Rattle.hub_board.specs.declared.given.Given.{Given}
use Rattle.hub_board.specs.declared.given.Given.TheVariants.{Message as Came, Begun as Began, Raised as WasRaised}
use Rattle.hub_board.specs.declared.given.Given.TheVariants.{Lapse as Lapsed}

-- what is told of the first that there is
abbrev pick : Option MessageOf → Bool → Option (List ℕ) → Bool → Option Gift
pick o b f l =
    cond (is_some o) (Some Message) (cond b (Some Begun) (cond (is_some f) (Some Raised) (cond l (Some Lapse) None)))

abbrev tell : Option MessageOf → Option (List ℕ) → Option Gift → Option Given
tell o f None = None
tell o f (Some Message) = option_map (λ m. Came m) o
tell o f (Some Begun) = Some Began
tell o f (Some Raised) = option_map (λ flag. WasRaised flag) f
tell o f (Some Lapse) = Some Lapsed

told_back : (o : Option MessageOf) (b : Bool) (f : Option (List ℕ)) (l : Bool)
    → gift_in (tell o f (pick o b f l)) ≡ pick o b f l
told_back (Some m) b f l = refl
told_back None true f l = refl
told_back None false (Some flag) l = refl
told_back None false None true = refl
told_back None false None false = refl

same_tell : (hub : Hubbed) (node : Node) (gift : Option Gift)
    → given_of hub node gift ≡ tell (next_copy hub.net node) (flag_of hub node) gift
same_tell hub node None = refl
same_tell hub node (Some Message) = refl
same_tell hub node (Some Begun) = refl
same_tell hub node (Some Raised) = refl
same_tell hub node (Some Lapse) = refl

gift_back : (hub : Hubbed) (node : Node) → gift_in (given_of hub node (gift_for hub node)) ≡ gift_for hub node
gift_back hub node =
    ap gift_in (same_tell hub node (gift_for hub node))
    ∙ told_back (next_copy hub.net node) (may_begin node && begins hub node) (flag_of hub node)
    (is_some (lapse_place hub.net node))

module _ (old p n g e : Posted) (node : Node) (steps s1 s2 handed : List Step) (flags f3 : List (List ℕ))
    (given : Option Given) (gift : Option Gift) where
  mid : s1 ≡ steps → s2 ≡ steps → f3 ≡ flags → IsPrepared old p s1 → flags ≡ flags_of old.hub node s1
      → n ≡ record p { hub = noted p.hub node s2 f3 } → n.hub ≡ with_steps old.hub node steps
  mid a b c prepared f note =
      ap (λ (x : Posted). x.hub) note
      ∙ ap (λ (h : Hubbed). noted h node s2 f3) prepared.hub
      ∙ ap (λ (xs : List Step). noted (record old.hub { net = with_sent old.hub.net s1 }) node xs f3) b
      ∙ ap (λ (fs : List (List ℕ)). noted (record old.hub { net = with_sent old.hub.net s1 }) node steps fs) (c ∙ f)
      ∙ ap (λ (xs : List Step). noted (record old.hub { net = with_sent old.hub.net xs }) node steps
      (flags_of old.hub node xs)) a

  pub turned : s1 ≡ steps → s2 ≡ steps → f3 ≡ flags → IsPrepared old p s1 → flags ≡ flags_of old.hub node s1
      → n ≡ record p { hub = noted p.hub node s2 f3 } → given ≡ given_of n.hub node (gift_for n.hub node)
      → g ≡ record n { hub = without (gift_for n.hub node) node n.hub } → handed ≡ steps → gift ≡ gift_in given
      → e.turns ≡ g.turns ++ entered node handed gift → e.hub ≡ g.hub → HasTurned old e node steps given
  turned a b c prepared f note told gave h i turns hub =
      let m = mid a b c prepared f note in
      let kind : gift ≡ gift_for (with_steps old.hub node steps) node =
      i ∙ ap gift_in told ∙ gift_back n.hub node ∙ ap (λ (x : Hubbed). gift_for x node) m in
      let before : g.turns ≡ old.turns =
      ap (λ (x : Posted). x.turns) gave ∙ ap (λ (x : Posted). x.turns) note ∙ prepared.turns in
      record {
        gift_is = gift_for (with_steps old.hub node steps) node;
        first = refl;
        turns = turns ∙ ap (λ ts. ts ++ entered node handed gift) before
            ∙ ap (λ (xs : List Step). old.turns ++ entered node xs gift) h
            ∙ ap (λ (k : Option Gift). old.turns ++ entered node steps k) kind;
        hub = hub ∙ ap (λ (x : Posted). x.hub) gave ∙ ap (λ (x : Hubbed). without (gift_for x node) node x) m;
        given_is = told ∙ ap (λ (x : Hubbed). given_of x node (gift_for x node)) m;
      }
