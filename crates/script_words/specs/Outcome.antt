use Rattle.std.specs.Prelude.{◌≡◌, Bool, true, false, Option, Some, None, Result, Ok, Err}
use Rattle.script_words.specs.declared.fault.BadWhy.{BadWhy}
use Rattle.script_words.specs.declared.fault.Fault.{Fault}
use Rattle.script_words.specs.declared.fault.Fault.TheVariants.{Bad, Memory}

-- what follows a step that may be refused, in a `do`
infixl 10 ◌>>=◌
abbrev pub ◌>>=◌ : {A B : Type 0} → Result A BadWhy → (A → Result B BadWhy) → Result B BadWhy
(Ok value) >>= next = next value
(Err why) >>= next = Err why

-- a fault is what reading gives, unless memory ran out
abbrev pub Fails : {Y : Type 0} → Fault → Result Y BadWhy → Type 0
Fails Memory read = Unit {0}
Fails (Bad why) read = read ≡ Err why

-- what a function returned is what reading gives, unless memory ran out
abbrev pub Gives : {X : Type 0} → Result X Fault → Result X BadWhy → Type 0
Gives (Ok value) read = read ≡ Ok value
Gives (Err fault) read = Fails fault read

-- the same, for what was returned seen by a view
abbrev pub GivesBy : {X Y : Type 0} → (X → Y) → Result X Fault → Result Y BadWhy → Type 0
GivesBy view (Ok value) read = read ≡ Ok (view value)
GivesBy view (Err fault) read = Fails fault read

-- what is there, or why it is refused
abbrev pub found : {X : Type 0} → BadWhy → Option X → Result X BadWhy
found why None = Err why
found why (Some value) = Ok value

-- what may not be
abbrev pub unless : Bool → BadWhy → Result (Unit {0}) BadWhy
unless true why = Err why
unless false why = Ok tt

-- what a call left is what reading gives, unless memory ran out
abbrev pub Becomes : {X : Type 0} → Result (Unit {0}) Fault → X → Result X BadWhy → Type 0
Becomes (Ok _) left read = read ≡ Ok left
Becomes (Err fault) left read = Fails fault read

-- what a step returned leaves to be read what there was, unless memory ran out
abbrev pub Onward : {X Y : Type 0} → (X → Result Y BadWhy) → Result X Fault → Result Y BadWhy → Type 0
Onward left (Ok rest) read = read ≡ left rest
Onward left (Err fault) read = Fails fault read
