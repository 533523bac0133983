-- Lines that lock and that open a file, by their ends.
use Rattle.std.proofs.Common.{◌≡◌, ℕ, List, Result, Ok, Err, refl, sym, ap, ◌∙◌}
use Rattle.base_types.specs.declared.ids.OpenKind.{OpenKind}
use Rattle.tree_calls.specs.declared.place.Place.{Place}
use Rattle.tree_calls.specs.declared.call.Call.{Call}
use Rattle.tree_calls.specs.declared.call.Call.TheVariants as calls
use Rattle.script_words.specs.Outcome.{◌>>=◌, Fails}
use Rattle.script_words.specs.Fields.{label_at}
use Rattle.script_lines.specs.Context.{place_at}
use Rattle.script_lines.specs.Deeds.{lock_call, open_call}
use Rattle.script_lines.specs.Locks.{lock_part, last_kind}
use Rattle.script_lines.specs.declared.context.Placed.{Placed}
use Rattle.script_lines.specs.declared.deeds.LockPart.{LockPart}
use Rattle.script_words.specs.declared.fault.BadWhy.{BadWhy}
use Rattle.script_words.specs.declared.fault.Fault.{Fault}
use Rattle.script_words.specs.declared.fault.Fault.TheVariants.{Bad, Memory}

-- steps in a row, taken one by one or two at once
pub steps_joined : {A B C : Type 0} (r : Result A BadWhy) (f : A → Result B BadWhy) (g : B → Result C BadWhy) → (r >>= f) >>= g ≡ r >>= (λ x. f x >>= g)
steps_joined (Ok value) f g = refl
steps_joined (Err why) f g = refl

-- a lock, by its label, its place and its end
abbrev lock_by : List ℕ → Place → LockPart → Result Call BadWhy
lock_by label place part = Ok (calls.Lock label place part.writing part.from part.len)

lock_joined : (placed : List Placed) (words : List (List ℕ)) (label : List ℕ) (place : Place) → label_at words 2 ≡ Ok label → place_at placed words 3 ≡ Ok place → lock_part words >>= lock_by label place ≡ lock_call placed words
unfolding lock_call lock_part
lock_joined placed words label place e f = rw (e, f) (simp steps_joined)

pub lock_ok : (placed : List Placed) (words : List (List ℕ)) (label : List ℕ) (place : Place) (part : LockPart) → label_at words 2 ≡ Ok label → place_at placed words 3 ≡ Ok place → lock_part words ≡ Ok part → lock_call placed words ≡ Ok (calls.Lock label place part.writing part.from part.len)
lock_ok placed words label place part e f g = sym (lock_joined placed words label place e f) ∙ ap (λ r. r >>= lock_by label place) g

pub lock_err : (placed : List Placed) (words : List (List ℕ)) (label : List ℕ) (place : Place) (why : BadWhy) → label_at words 2 ≡ Ok label → place_at placed words 3 ≡ Ok place → lock_part words ≡ Err why → lock_call placed words ≡ Err why
lock_err placed words label place why e f g = sym (lock_joined placed words label place e f) ∙ ap (λ r. r >>= lock_by label place) g

pub lock_fails : (placed : List Placed) (words : List (List ℕ)) (label : List ℕ) (place : Place) (fault : Fault) → label_at words 2 ≡ Ok label → place_at placed words 3 ≡ Ok place → Fails fault (lock_part words) → Fails fault (lock_call placed words)
lock_fails placed words label place Memory e f g = tt
lock_fails placed words label place (Bad why) e f g = lock_err placed words label place why e f g

-- a file that is opened, by its label, its place and its end
abbrev open_by : List ℕ → Place → OpenKind → Result Call BadWhy
open_by label place kind = Ok (calls.OpenFile label place kind)

open_joined : (placed : List Placed) (words : List (List ℕ)) (label : List ℕ) (place : Place) → label_at words 2 ≡ Ok label → place_at placed words 3 ≡ Ok place → last_kind words >>= open_by label place ≡ open_call placed words
unfolding open_call last_kind
open_joined placed words label place e f = rw (e, f) (simp steps_joined)

pub open_ok : (placed : List Placed) (words : List (List ℕ)) (label : List ℕ) (place : Place) (kind : OpenKind) → label_at words 2 ≡ Ok label → place_at placed words 3 ≡ Ok place → last_kind words ≡ Ok kind → open_call placed words ≡ Ok (calls.OpenFile label place kind)
open_ok placed words label place kind e f g = sym (open_joined placed words label place e f) ∙ ap (λ r. r >>= open_by label place) g

pub open_err : (placed : List Placed) (words : List (List ℕ)) (label : List ℕ) (place : Place) (why : BadWhy) → label_at words 2 ≡ Ok label → place_at placed words 3 ≡ Ok place → last_kind words ≡ Err why → open_call placed words ≡ Err why
open_err placed words label place why e f g = sym (open_joined placed words label place e f) ∙ ap (λ r. r >>= open_by label place) g

pub open_fails : (placed : List Placed) (words : List (List ℕ)) (label : List ℕ) (place : Place) (fault : Fault) → label_at words 2 ≡ Ok label → place_at placed words 3 ≡ Ok place → Fails fault (last_kind words) → Fails fault (open_call placed words)
open_fails placed words label place Memory e f g = tt
open_fails placed words label place (Bad why) e f g = open_err placed words label place why e f g
