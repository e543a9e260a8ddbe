-- What it means that a public function's contract says something.

-- P is the function's whole contract as the checker reads it: whenever a result r and what the parameters hold afterwards, s, meet it, for
-- the lifetimes κs and the arguments a, they are as Q says
abbrev pub States : {K : Type 0} {D R S : K → Type 0} → (P Q : (κs : K) → D κs → R κs → S κs → Type 0) → Type 0
States {K} {D} {R} {S} P Q = (κs : K) (a : D κs) (r : R κs) (s : S κs) → P κs a r s → Q κs a r s
