mod Simple
