mod IndexLemmas
