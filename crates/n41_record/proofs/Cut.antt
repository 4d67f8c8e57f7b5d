-- A stream is read on from its rest.
use Rattle.std.proofs.Common.{◌≡◌, ℕ, List, ◌++◌, sym, ap, ◌∙◌, append_assoc}
use Rattle.n41_record.specs.declared.fault.GatherFault.{GatherFault}
use Rattle.n41_record.specs.Fragments.{header, earlier}
use Rattle.n41_record.specs.Streams.{Records, Refused}
use Rattle.n41_record.proofs.Gathering.{records_append}

joined : (a b r front later q : List ℕ) → a ≡ front ++ r → r ++ b ≡ later ++ q → a ++ b ≡ (front ++ later) ++ q
joined a b r front later q e f = ap (λ (x : List ℕ). x ++ b) e ∙ append_assoc front r b ∙ ap (λ (x : List ℕ). front ++ x) f ∙ sym (append_assoc front later q)

pub records_cut : (a b : List ℕ) (xs ys : List (List ℕ)) (r q : List ℕ) → Records a xs r → Records (r ++ b) ys q → Records (a ++ b) (xs ++ ys) q
records_cut a b xs ys r q h k = record {
  front = h.front ++ k.front;
  whole = joined a b r h.front k.front q h.whole k.whole;
  records = records_append h.front k.front xs ys h.records k.records;
  ending = k.ending;
}

pub refused_cut : (a b : List ℕ) (xs ys : List (List ℕ)) (r q : List ℕ) (f : GatherFault) → Records a xs r → Refused (r ++ b) ys q f → Refused (a ++ b) (xs ++ ys) q f
refused_cut a b xs ys r q f h k = record {
  front = h.front ++ k.front;
  whole = joined a b r h.front k.front q h.whole k.whole;
  records = records_append h.front k.front xs ys h.records k.records;
  ending = k.ending;
}

pub refused_stays : (a b : List ℕ) (xs : List (List ℕ)) (r : List ℕ) (f : GatherFault) → Refused a xs r f → Refused (a ++ b) xs (r ++ b) f
refused_stays a b xs r f h = record {
  front = h.front;
  whole = ap (λ (x : List ℕ). x ++ b) h.whole ∙ append_assoc h.front r b;
  records = h.records;
  ending = record {
    before = h.ending.before;
    last = h.ending.last;
    size = h.ending.size;
    after = h.ending.after ++ b;
    spelled = ap (λ (x : List ℕ). x ++ b) h.ending.spelled ∙ append_assoc (earlier h.ending.before) (header h.ending.last h.ending.size ++ h.ending.after) b
        ∙ ap (λ (x : List ℕ). earlier h.ending.before ++ x) (append_assoc (header h.ending.last h.ending.size) h.ending.after b);
    within = h.ending.within;
    fits = h.ending.fits;
    passes = h.ending.passes;
  };
}
