-- What is given to a node, by what there is for it.
use Rattle.std.proofs.Common.{◌≡◌, ℕ, zero, suc, true, false, cond, ◌&&◌, ◌||◌, Bool, List, [], ◌∷◌, Option, None}
use Rattle.std.proofs.Common.{Some, is_some, refl, sym, ap, ◌∙◌}
use Rattle.std.specs.Option.{option_map, option_and_then, option_map_or}
use Rattle.std.specs.Prelude.{slice_get}
use Rattle.std.specs.List.{remove}
use Rattle.base_types.specs.Lists.{changed_at}
use Rattle.base_types.specs.declared.ids.Node.{Node}
use Rattle.message_types.specs.declared.message.Message.{Message as MessageOf}
use Rattle.hub_wire.specs.Networks.{Network, lapse_place, next_copy, without_copy, without_lapse}
use Rattle.hub_board.specs.Follows.{flag_for, if_flag, place_of, with_begun, with_told}
use Rattle.hub_board.specs.Hubs.{Hubbed, begins, flag_of, gift_for, given_of, may_begin, without}
use Rattle.hub_board.specs.declared.follow.Follow.{Follow}
use Rattle.hub_board.specs.declared.given.Gift.{Gift}
use Rattle.hub_board.specs.declared.given.Gift.TheVariants.{Message, Begun, Raised, Lapse}
use Rattle.hub_board.specs.declared.given.Given.TheVariants.{Message as Came, Begun as Began, Raised as WasRaised}
use Rattle.hub_board.specs.declared.given.Given.TheVariants.{Lapse as Lapsed}

-- two changes that do the same there
pub same_change : {X : Type 0} (f g : X → X) (xs : List X) (i : ℕ) → ((x : X) → slice_get xs i ≡ Some x → f x ≡ g x)
    → changed_at xs i f ≡ changed_at xs i g
same_change f g [] i h = refl
same_change f g (x ∷ xs) zero h = ap (λ y. y ∷ xs) (h x refl)
same_change f g (x ∷ xs) (suc i) h = ap (λ ys. x ∷ ys) (same_change f g xs i h)

pub no_change : {X : Type 0} (xs : List X) (i : ℕ) → changed_at xs i (λ x. x) ≡ xs
no_change [] i = refl
no_change (x ∷ xs) zero = refl
no_change (x ∷ xs) (suc i) = ap (λ ys. x ∷ ys) (no_change xs i)

flag_some : (f : Follow) (flag : List ℕ) → Some flag ≡ flag_for f → if_flag f ≡ with_told f
flag_some f flag e = ap (λ b. cond b (with_told f) f) (sym (ap is_some e))

flag_none : (f : Follow) → None ≡ flag_for f → if_flag f ≡ f
flag_none f e = ap (λ b. cond b (with_told f) f) (sym (ap is_some e))

-- the follow at a place, where its flag is known
then_some : (follows : List Follow) (i : ℕ) (o : Option (List ℕ)) → o ≡ option_and_then flag_for (slice_get follows i)
    → (f : Follow) → slice_get follows i ≡ Some f → o ≡ flag_for f
then_some follows i o e f at = e ∙ ap (option_and_then flag_for) at

nothing_there : {X Y : Type 0} (f : X → Y) (o : Option X) (d : Y) → is_some o ≡ false → option_map_or f o d ≡ d
nothing_there f None d e = refl
nothing_there f (Some x) d e = absurd (cc)

some_of : (a b c d : Bool)
    → is_some (cond a (Some Message) (cond b (Some Begun) (cond c (Some Raised) (cond d (Some Lapse) None))))
    ≡ (((a || b) || c) || d)
some_of true b c d = refl
some_of false true c d = refl
some_of false false true d = refl
some_of false false false true = refl
some_of false false false false = refl

-- whether there is something
pub some_gift : (hub : Hubbed) (node : Node) → is_some (gift_for hub node)
    ≡ (((is_some (next_copy hub.net node) || (may_begin node && begins hub node)) || is_some (flag_of hub node))
    || is_some (lapse_place hub.net node))
some_gift hub node =
    some_of (is_some (next_copy hub.net node)) (may_begin node && begins hub node) (is_some (flag_of hub node))
    (is_some (lapse_place hub.net node))

module _ (hub : Hubbed) (node : Node) where
  abbrev after_flag : Option Gift
  after_flag = cond (is_some (lapse_place hub.net node)) (Some Lapse) None

  abbrev after_begun : Option Gift
  after_begun = cond (is_some (flag_of hub node)) (Some Raised) after_flag

  abbrev after_copy : Option Gift
  after_copy = cond (may_begin node && begins hub node) (Some Begun) after_begun

  is_copy : (m : MessageOf) → Some m ≡ next_copy hub.net node → gift_for hub node ≡ Some Message
  is_copy m e = ap (λ b. cond b (Some Message) after_copy) (sym (ap is_some e))

  no_copy : None ≡ next_copy hub.net node → gift_for hub node ≡ after_copy
  no_copy e = ap (λ b. cond b (Some Message) after_copy) (sym (ap is_some e))

  is_begun : None ≡ next_copy hub.net node → (may_begin node && begins hub node) ≡ true → gift_for hub node ≡ Some Begun
  is_begun e b = no_copy e ∙ ap (λ t. cond t (Some Begun) after_begun) b

  no_begun : None ≡ next_copy hub.net node → (may_begin node && begins hub node) ≡ false → gift_for hub node
      ≡ after_begun
  no_begun e b = no_copy e ∙ ap (λ t. cond t (Some Begun) after_begun) b

  is_raised : (flag : List ℕ) → None ≡ next_copy hub.net node → (may_begin node && begins hub node) ≡ false
      → Some flag ≡ flag_of hub node → gift_for hub node ≡ Some Raised
  is_raised flag e b f = no_begun e b ∙ ap (λ t. cond t (Some Raised) after_flag) (sym (ap is_some f))

  no_raised : None ≡ next_copy hub.net node → (may_begin node && begins hub node) ≡ false → None ≡ flag_of hub node
      → gift_for hub node ≡ after_flag
  no_raised e b f = no_begun e b ∙ ap (λ t. cond t (Some Raised) after_flag) (sym (ap is_some f))

  pub gives_copy : (m : MessageOf) → Some m ≡ next_copy hub.net node → Some (Came m) ≡ given_of hub node
      (gift_for hub node)
  gives_copy m e = ap (option_map (λ x. Came x)) e ∙ ap (given_of hub node) (sym (is_copy m e))

  pub after_gives_copy : (m : MessageOf) → Some m ≡ next_copy hub.net node
      → record hub { net = without_copy node hub.net } ≡ without (gift_for hub node) node hub
  after_gives_copy m e = ap (λ g. without g node hub) (sym (is_copy m e))

  pub gives_begun : None ≡ next_copy hub.net node → (may_begin node && begins hub node) ≡ true
      → Some Began ≡ given_of hub node (gift_for hub node)
  gives_begun e b = ap (given_of hub node) (sym (is_begun e b))

  pub gives_raised : (flag : List ℕ) → None ≡ next_copy hub.net node → (may_begin node && begins hub node) ≡ false
      → Some flag ≡ flag_of hub node → Some (WasRaised flag) ≡ given_of hub node (gift_for hub node)
  gives_raised flag e b f =
      ap (option_map (λ x. WasRaised x)) f ∙ ap (given_of hub node) (sym (is_raised flag e b f))

  pub gives_lapse : None ≡ next_copy hub.net node → (may_begin node && begins hub node) ≡ false → None ≡ flag_of hub
      node
      → is_some (lapse_place hub.net node) ≡ true → Some Lapsed ≡ given_of hub node (gift_for hub node)
  gives_lapse e b f l =
      ap (given_of hub node) (sym (no_raised e b f ∙ ap (λ t. cond t (Some Lapse) None) l))

  pub gives_none : None ≡ next_copy hub.net node → (may_begin node && begins hub node) ≡ false → None ≡ flag_of hub node
      → is_some (lapse_place hub.net node) ≡ false → None ≡ given_of hub node (gift_for hub node)
  gives_none e b f l =
      ap (given_of hub node) (sym (no_raised e b f ∙ ap (λ t. cond t (Some Lapse) None) l))

  pub after_begins : without_copy node hub.net ≡ hub.net → None ≡ next_copy hub.net node
      → (may_begin node && begins hub node) ≡ true
      → record hub {
        net = without_copy node hub.net;
        follows = changed_at hub.follows (place_of hub.follows node) with_begun;
      } ≡ without (gift_for hub node) node hub
  after_begins stays e b =
      ap (λ (n : Network). record hub {
        net = n;
        follows = changed_at hub.follows (place_of hub.follows node)
            with_begun;
      })
      stays
      ∙ ap (λ g. without g node hub) (sym (is_begun e b))

  pub after_raises : without_copy node hub.net ≡ hub.net → (flag : List ℕ) → None ≡ next_copy hub.net node
      → (may_begin node && begins hub node) ≡ false
      → Some flag ≡ flag_of hub node
      → record hub {
        net = without_copy node hub.net;
        follows = changed_at hub.follows (place_of hub.follows node) if_flag;
      } ≡ without (gift_for hub node) node hub
  after_raises stays flag e b f =
      let place = place_of hub.follows node in
      let told : changed_at hub.follows place if_flag ≡ changed_at hub.follows place with_told =
      same_change if_flag with_told hub.follows place
      (λ x at. flag_some x flag (then_some hub.follows place (Some flag) f x at)) in
      ap (λ (n : Network). record hub { net = n; follows = changed_at hub.follows place if_flag }) stays
      ∙ ap (λ (fs : List Follow). record hub { follows = fs }) told
      ∙ ap (λ g. without g node hub) (sym (is_raised flag e b f))

  untold : None ≡ flag_of hub node → changed_at hub.follows (place_of hub.follows node) if_flag ≡ hub.follows
  untold f =
      let place = place_of hub.follows node in
      same_change if_flag (λ x. x) hub.follows place (λ x at. flag_none x (then_some hub.follows place None f x at))
      ∙ no_change hub.follows place

  pub after_lapses : without_copy node hub.net ≡ hub.net → None ≡ next_copy hub.net node
      → (may_begin node && begins hub node) ≡ false
      → None ≡ flag_of hub node → is_some (lapse_place hub.net node) ≡ true
      → record hub {
        net = without_lapse node (without_copy node hub.net);
        follows = changed_at hub.follows (place_of hub.follows node) if_flag;
      } ≡ without (gift_for hub node) node hub
  after_lapses stays e b f l =
      ap (λ (n : Network). record hub {
        net = without_lapse node n;
        follows = changed_at hub.follows (place_of hub.follows node) if_flag;
      }) stays
      ∙ ap (λ (fs : List Follow). record hub { net = without_lapse node hub.net; follows = fs }) (untold f)
      ∙ ap (λ g. without g node hub) (sym (no_raised e b f ∙ ap (λ t. cond t (Some Lapse) None) l))

  pub after_nothing : without_copy node hub.net ≡ hub.net → None ≡ next_copy hub.net node
      → (may_begin node && begins hub node) ≡ false
      → None ≡ flag_of hub node → is_some (lapse_place hub.net node) ≡ false
      → record hub {
        net = without_lapse node (without_copy node hub.net);
        follows = changed_at hub.follows (place_of hub.follows node) if_flag;
      } ≡ without (gift_for hub node) node hub
  after_nothing stays e b f l =
      let due = nothing_there (λ place. remove hub.net.due place) (lapse_place hub.net node) hub.net.due l in
      ap (λ (n : Network). record hub {
        net = without_lapse node n;
        follows = changed_at hub.follows (place_of hub.follows node) if_flag;
      }) stays
      ∙ ap (λ (fs : List Follow). record hub { net = without_lapse node hub.net; follows = fs }) (untold f)
      ∙ ap (λ (ds : List Node). record hub { net = record hub.net { due = ds } }) due
      ∙ ap (λ g. without g node hub) (sym (no_raised e b f ∙ ap (λ t. cond t (Some Lapse) None) l))
