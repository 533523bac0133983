-- What the code of learning leaves of the tables.
use Rattle.host_asks.specs.Asking.{doing}
use Rattle.host_gives.proofs.Staying.{first_behind}
use Rattle.host_gives.specs.Giving.{Giving, after_take_out, is_numbered, is_outstanding, taken_out, without}
use Rattle.host_manager.specs.Learning.{HasTaken, Taking, closed_at, closed_by, due_of, ended_by, ends_in}
use Rattle.host_manager.specs.Learning.{learning_given, taking_from, taking_one, without_give}
use Rattle.host_tables.specs.declared.draft.Draft.{Draft}
use Rattle.host_tables.specs.declared.tables.Tables.{Tables}
use Rattle.message_types.specs.declared.giving.AppliedGive.{AppliedGive}
use Rattle.message_types.specs.declared.giving.Ends.{Ends}
use Rattle.message_types.specs.declared.message.Message.{Message}
use Rattle.message_types.specs.declared.telling.Grant.{Grant}
use Rattle.std.proofs.Common.{Bool, List, None, Option, Some, [], ap, cond, false, if◌then◌else◌, is_some, refl}
use Rattle.std.proofs.Common.{sym, true, ℕ, ◌∙◌, ◌∷◌, ◌≡◌}
use Rattle.std.specs.List.{find}
use Rattle.std.specs.Option.{option_map, option_map_or}
use Rattle.token_types.specs.declared.token.Token.{Token}

-- # The end of a call
pub ends_none : (message : Message) (m : Tables)
    → option_map (λ (ends : Ends). ends.k) (ends_in message) ≡ None → ended_by message m ≡ m
ends_none message m e = by_ends (ends_in message) e
  where
    by_ends : (o : Option Ends) → option_map (λ (ends : Ends). ends.k) o ≡ None
        → (if is_some o then record m { ending = None; call = closed_by o m.call } else m) ≡ m
    by_ends None p = refl
    by_ends (Some x) p = absurd (cc)

pub ends_some : (message : Message) (m : Tables) (k : ℕ)
    → option_map (λ (ends : Ends). ends.k) (ends_in message) ≡ Some k
    → record m { ending = None; call = closed_at k m.call } ≡ ended_by message m
ends_some message m k e = by_ends (ends_in message) e
  where
    by_ends : (o : Option Ends) → option_map (λ (ends : Ends). ends.k) o ≡ Some k
        → record m { ending = None; call = closed_at k m.call }
        ≡ (if is_some o then record m { ending = None; call = closed_by o m.call } else m)
    by_ends None p = absurd (cc)
    by_ends (Some x) p =
        let q : x.k ≡ k = cc in ap (λ (n : ℕ). record m { ending = None; call = closed_at n m.call }) (sym q)

-- # A give-back is known
pub learns_none : (n : AppliedGive) (m : Tables) (draft : Draft) → taken_out m.gives n.fileset n.number ≡ None
    → doing m draft ≡ learning_given n (doing m draft)
learns_none n m draft e = ap (λ (o : Option Message). option_map_or
    (λ message. doing (ended_by message (without_give n m)) (due_of n (is_outstanding m.gives n.fileset n.number)
    (after_take_out m.gives n.fileset n.number) draft)) o (doing m draft)) (sym e)

-- no give-back has the number
none_left : (p : Message → Bool) (ys : List Message) → find p ys ≡ None → without p ys ≡ ys
none_left p [] e = refl
none_left p (y ∷ ys) e = by_first (λ rest. none_left p ys rest) (p y) refl
  where
    by_first : (find p ys ≡ None → without p ys ≡ ys) → (b : Bool) → p y ≡ b → without p (y ∷ ys) ≡ y ∷ ys
    by_first below true t =
        let q : Some y ≡ None = sym (ap (λ (b : Bool). cond b (Some y) (find p ys)) t) ∙ e in absurd (cc)
    by_first below false f =
        first_behind p y ys f
        ∙ ap (λ (zs : List Message). y ∷ zs) (below (sym (ap (λ (b : Bool). cond b (Some y) (find p ys)) f) ∙ e))

pub none_out : (gives : Giving) (n : AppliedGive) → taken_out gives n.fileset n.number ≡ None
    → after_take_out gives n.fileset n.number ≡ gives
none_out gives n e = ap (λ (ys : List Message). record gives { gives = ys })
    (none_left (is_numbered n.fileset n.number) gives.gives e)

pub learns_some : (n : AppliedGive) (m : Tables) (draft : Draft) (y : Message)
    → taken_out m.gives n.fileset n.number ≡ Some y
    → doing (ended_by y (without_give n m)) (due_of n (is_outstanding m.gives n.fileset n.number)
    (after_take_out m.gives n.fileset n.number) draft) ≡ learning_given n (doing m draft)
learns_some n m draft y e = ap (λ (o : Option Message). option_map_or
    (λ message. doing (ended_by message (without_give n m)) (due_of n (is_outstanding m.gives n.fileset n.number)
    (after_take_out m.gives n.fileset n.number) draft)) o (doing m draft)) (sym e)

-- the give-backs that stay are those of the tables after the end of a call
pub ended_gives : (message : Message) (m : Tables) → (ended_by message m).gives ≡ m.gives
ended_gives message m = by_ends (ends_in message)
  where
    by_ends : (o : Option Ends)
        → (if is_some o then record m { ending = None; call = closed_by o m.call } else m).gives ≡ m.gives
    by_ends None = refl
    by_ends (Some x) = refl

-- # Tokens that are taken
pub took_none : (m : Tables) (draft : Draft) → HasTaken m draft (taking_from m draft) m draft
took_none m draft = record { shown = refl; tables = refl; draft_is = refl }

-- what was taken so far, and one more
pub took_more : (grant : Option Grant) (m : Tables) (draft : Draft) (at : Taking) (x : Tables) (d : Draft)
    (token : Token) (new : Tables) (after : Draft) → HasTaken m draft at x d
    → HasTaken x d (taking_one grant (taking_from x d) token) new after
    → HasTaken m draft (taking_one grant at token) new after
took_more grant m draft at x d token new after so one =
    let same : taking_from x d ≡ at = λ i. record {
      shown = so.shown i;
      lengths = (so.tables i).lengths;
      taken = (so.draft_is i).taken;
    } in
    let next = ap (λ (a : Taking). taking_one grant a token) same in
    record {
      shown = one.shown ∙ ap (λ (a : Taking). a.shown) next;
      tables = one.tables
          ∙ (λ i. record (so.tables i) { cache = new.cache; lengths = (next i).lengths });
      draft_is = one.draft_is ∙ (λ i. record (so.draft_is i) { taken = (next i).taken });
    }
