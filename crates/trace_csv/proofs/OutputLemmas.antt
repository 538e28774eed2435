-- What writes in turn give to a sink.
use Rattle.std.proofs.Common.{ℕ, List, [], ◌++◌, Option, Some, None, sym, append_assoc, ◌∙◌, ap}
use Rattle.std.proofs.lemmas.List.{append-nil}
use Rattle.std.specs.Prelude.{Result, Ok, Err, OnErr}
use Rattle.std.specs.Io.KnownBytes.{Appends, Keeps}
use Rattle.trace_csv.specs.Output.{TakesFront}

pub appends-none : (x : Option (List ℕ)) → Appends x x []
appends-none None = tt
appends-none (Some xs) = sym (append-nil xs)

pub appends-more : (a b c : Option (List ℕ)) (xs ys : List ℕ) → Appends a b xs → Appends b c ys → Appends a c (xs ++ ys)
appends-more None b c xs ys h k = tt
appends-more (Some x) None c xs ys h k = absurd h
appends-more (Some x) (Some y) None xs ys h k = k
appends-more (Some x) (Some y) (Some z) xs ys h k = k ∙ ap (λ t. t ++ ys) h ∙ append_assoc x xs ys

pub appends-kept : (a b c : Option (List ℕ)) (xs : List ℕ) → Appends a b xs → Keeps b c → Appends a c xs
appends-kept None b c xs h k = tt
appends-kept (Some x) None c xs h k = absurd h
appends-kept (Some x) (Some y) None xs h k = k
appends-kept (Some x) (Some y) (Some z) xs h k = k ∙ h

pub keeps-appends : (a b : Option (List ℕ)) → Keeps a b → Appends a b []
keeps-appends None b k = tt
keeps-appends (Some x) None k = k
keeps-appends (Some x) (Some y) k = k ∙ sym (append-nil x)

-- some text whole and then a front of the next
pub front-after : (a b c : Option (List ℕ)) (done next : List ℕ) → Appends a b done → TakesFront b c next → TakesFront a c (done ++ next)
front-after a b c done next h t = record {
  front = done ++ t.front;
  rest = t.rest;
  whole = ap (λ x. done ++ x) t.whole ∙ sym (append_assoc done t.front t.rest);
  taken = appends-more a b c done t.front h t.taken;
}

-- a front of a text is a front of a longer one
pub front-of : (a b : Option (List ℕ)) (text more : List ℕ) → TakesFront a b text → TakesFront a b (text ++ more)
front-of a b text more t = record {
  front = t.front;
  rest = t.rest ++ more;
  whole = ap (λ x. x ++ more) t.whole ∙ append_assoc t.front t.rest more;
  taken = t.taken;
}

-- the whole of a text is a front of it
pub whole-front : (a b : Option (List ℕ)) (text : List ℕ) → Appends a b text → TakesFront a b text
whole-front a b text h = record { front = text; rest = []; whole = sym (append-nil text); taken = h }

-- a fact that holds holds on any error
pub on_err : {T E : Type 0} (r : Result T E) (P : Type 0) → P → OnErr r P
on_err (Ok x) P p = tt
on_err (Err e) P p = p
